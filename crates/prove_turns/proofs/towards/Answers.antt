-- `prove_turns::towards` meets its contract, by whether the child is there. Assumes nothing.
use mathlib.Core.Path.{sym, ◌∙◌}
use borrow.Author.Tests.{eq-eqb, ne_eqb}
use Rattle.prove_turns.proofs.towards.Goals as goal

pub returns-then-child_version-eq0 : goal.returns-then-child_version-eq0
returns-then-child_version-eq0 c = rw (eq-eqb _ 0 (sym c.child_version.ensures ∙ c.if-child_version-eq0.true))

pub returns : goal.returns
returns c = rw (ne_eqb _ 0 (λ e. c.if-child_version-eq0.false (c.child_version.ensures ∙ e)))
