-- `check_ahead::next_eight` meets its contract: those that wait fit the store, link by link. Assumes nothing.
use native.Mathlib.Omega.{arith}
use Rattle.check_ahead.proofs.Waiting.{room_small}
use Rattle.check_ahead.proofs.next_eight.Goals as goal

pub overflow_mul-w-end : goal.overflow_mul-w-end
overflow_mul-w-end c = omega (arith, room_small c.requires.0)

pub offset_bounds-guess-w : goal.offset_bounds-guess-w
offset_bounds-guess-w c = omega (arith, room_small c.requires.0, c.loop-w-test.true)

pub bounds-guess-w : goal.bounds-guess-w
bounds-guess-w c = omega (arith, room_small c.requires.0, c.loop-w-test.true)

pub overflow_add-result : goal.overflow_add-result
overflow_add-result c = omega (arith, room_small c.requires.0, c.loop-w-test.true)

pub taken-many-requires : goal.taken-many-requires
taken-many-requires c =
    let i = c.loop-w.invariant in
    (c.requires.0, c.loop-w-test.true, i.few, i.fit, i.tied)
