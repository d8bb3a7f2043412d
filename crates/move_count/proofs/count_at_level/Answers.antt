-- `move_count::count_at_level` meets its contract: the slot has the level, or nothing is written. Assumes nothing.
use native.Mathlib.Omega.{arith}
use Rattle.check_pass.proofs.Records.{slot_small}
use Rattle.move_count.proofs.count_at_level.Goals as goal

pub overflow_mul-i : goal.overflow_mul-i
overflow_mul-i c = omega (arith, slot_small c.requires.1)

pub offset_bounds-guess-i : goal.offset_bounds-guess-i
offset_bounds-guess-i c = omega (arith, slot_small c.requires.1)

pub bounds-guess-i : goal.bounds-guess-i
bounds-guess-i c = omega (arith, slot_small c.requires.1)

pub overflow_mul-i-2 : goal.overflow_mul-i-2
overflow_mul-i-2 c = omega (arith, slot_small c.requires.1)

pub overflow_add-i : goal.overflow_add-i
overflow_add-i c = omega (arith, slot_small c.requires.1)

pub offset_bounds-guess-i-2 : goal.offset_bounds-guess-i-2
offset_bounds-guess-i-2 c = omega (arith, slot_small c.requires.1)

pub bounds-guess-i-2 : goal.bounds-guess-i-2
bounds-guess-i-2 c = omega (arith, slot_small c.requires.1)
