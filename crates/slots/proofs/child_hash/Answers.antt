-- `slots::child_hash` meets its contract: the hash of a child is the part that is handed out. Assumes nothing.
use mathlib.Core.Path.{refl}
use Rattle.layout.specs.Slots.{child_in}
use Rattle.terms.specs.Fields.{slice}
use borrow.Author.Rules.{rules}
use Rattle.slots.proofs.child_hash.Goals as goal

pub returns-then-right : goal.returns-then-right
unfolding child_in slice
returns-then-right c = rw c.if-right.true (refl, search rules)

pub returns : goal.returns
unfolding child_in slice
returns c = rw c.if-right.false (refl, search rules)
