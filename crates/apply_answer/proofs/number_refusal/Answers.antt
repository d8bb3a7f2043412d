-- `apply_answer::number_refusal` meets its contract: 18 exactly where the number isn't above latest. Assumes nothing.
use native.Mathlib.Omega.{arith}
use borrow.Author.Tests.{lt-ltb, le-ltb}
use Rattle.apply_answer.proofs.number_refusal.Goals as goal

pub returns-then-number-latest : goal.returns-then-number-latest
returns-then-number-latest c =
    let a = c.args in
    rw (le-ltb a.latest a.number (omega (arith, c.if-number-latest.true)))

pub returns : goal.returns
returns c =
    let a = c.args in
    rw (lt-ltb a.latest a.number (omega (arith, c.if-number-latest.false)))
