-- `place::child_place` meets its contract: the place is longer by the side's bit. Assumes nothing.
use mathlib.Core.Path.{sym, subst}
use Rattle.place.specs.Place.{Grown}
use Rattle.place.proofs.child_place.Goals as goal

pub returns-then-right : goal.returns-then-right
returns-then-right c = subst (λ b. Grown b c.args.place c.right.result) (sym c.if-right.true) c.right.ensures

pub returns : goal.returns
returns c = subst (λ b. Grown b c.args.place c.left.result) (sym c.if-right.false) c.left.ensures
