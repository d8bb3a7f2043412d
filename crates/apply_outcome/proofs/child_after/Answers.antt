-- `apply_outcome::child_after` meets its contract: an unchanged child is what it was. Assumes nothing.
use mathlib.Core.Path.{sym, ◌∙◌}
use mathlib.Core.Bool.{true≢false}
use Rattle.apply_outcome.proofs.child_after.Goals as goal

pub returns-then-not-writes : goal.returns-then-not-writes
returns-then-not-writes c = λ w. absurd (true≢false (sym w ∙ c.if-not-writes.true))

pub returns : goal.returns
returns c = λ w. c.requires w c.in-Unchanged.is
