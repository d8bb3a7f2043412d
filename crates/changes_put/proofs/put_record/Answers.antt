-- `changes_put::put_record` meets its contract: the record is written in its place, or nothing is. Assumes nothing.
use native.Mathlib.Omega.{arith}
use borrow.Author.Tests.{not-true, not-false}
use Rattle.changes_put.proofs.Putting.{not_put, record_put}
use Rattle.changes_put.proofs.put_record.Goals as goal

pub returns-then-not-writes : goal.returns-then-not-writes
returns-then-not-writes c = let a = c.args in not_put a.writes a.at _ a.room.now c.if-not-writes.true

pub overflow_mul-start : goal.overflow_mul-start
overflow_mul-start c = omega (arith, c.requires.1.within c.if-not-writes.false)

pub overflow_add-end : goal.overflow_add-end
overflow_add-end c = omega (arith, c.requires.1.within c.if-not-writes.false)

pub slice_bounds-put_item-end : goal.slice_bounds-put_item-end
slice_bounds-put_item-end c = omega (arith, c.requires.1.within c.if-not-writes.false)

pub returns : goal.returns
returns c =
    let a = c.args in
    record_put a.store.now a.i c.requires.0 a.kind a.writes a.at a.room.now c.if-not-writes.false
    c.slot_of.ensures.0 c.grant_of.ensures.0 c.put_item.ensures
