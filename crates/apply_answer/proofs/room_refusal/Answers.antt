-- `apply_answer::room_refusal` meets its contract: 7 exactly where the room is short. Assumes nothing.
use native.Mathlib.Omega.{arith}
use borrow.Author.Tests.{lt-ltb, le-ltb}
use Rattle.apply_answer.proofs.room_refusal.Goals as goal

pub returns-then-free-records : goal.returns-then-free-records
returns-then-free-records c =
    let a = c.args in
    rw (lt-ltb a.free a.records (omega (arith, c.if-free-records.true)))

pub returns : goal.returns
returns c =
    let a = c.args in
    rw (le-ltb a.free a.records (omega (arith, c.if-free-records.false)))
