-- `move_count::count_level` meets its contract: slot by slot. Assumes nothing.
use native.Mathlib.Omega.{arith}
use Rattle.check_pass.proofs.Records.{room_has, slot_small}
use Rattle.move_count.proofs.Levels.{counting_done}
use Rattle.move_count.proofs.count_level.Goals as goal

pub offset_bounds-levels-i : goal.offset_bounds-levels-i
offset_bounds-levels-i c = omega (arith, slot_small (room_has c.requires.1 c.loop-i-test.true))

pub bounds-levels-i : goal.bounds-levels-i
bounds-levels-i c = omega (arith, slot_small (room_has c.requires.1 c.loop-i-test.true))

pub returns : goal.returns
returns c = counting_done c.loop-i.invariant c.loop-i-test.false c.requires.1.many
