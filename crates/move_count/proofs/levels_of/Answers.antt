-- `move_count::levels_of` meets its contract: slot by slot. Assumes nothing.
use native.Mathlib.Omega.{arith}
use Rattle.check_pass.proofs.Records.{room_has, slot_small}
use Rattle.move_count.proofs.Levels.{levels_next}
use Rattle.move_count.proofs.levels_of.Goals as goal

pub offset_bounds-levels-i : goal.offset_bounds-levels-i
offset_bounds-levels-i c = omega (arith, slot_small (room_has c.requires.1 c.loop-i-test.true))

pub bounds-levels-i : goal.bounds-levels-i
bounds-levels-i c = omega (arith, slot_small (room_has c.requires.1 c.loop-i-test.true))

pub loop-i-preserved : goal.loop-i-preserved
loop-i-preserved c = levels_next c.loop-i.invariant c.level_of.ensures (slot_small (room_has c.requires.1 c.loop-i-test.true))
