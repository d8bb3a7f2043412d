-- `check_alone::children_found` meets its contract, side by side. Assumes nothing.
use mathlib.Core.Path.{sym, ◌∙◌}
use mathlib.Core.Bool.{true, false}
use Rattle.check_alone.proofs.Alone.{found_as}
use Rattle.check_alone.proofs.children_found.Goals as goal

pub returns-then-not-child_found : goal.returns-then-not-child_found
returns-then-not-child_found c =
    sym (rw (found_as _ c.args.store.now c.args.place c.left.result false c.args.a c.left.ensures
    c.child_found.ensures ∙ c.if-not-child_found.true))

pub returns : goal.returns
returns c =
    sym (rw (found_as _ c.args.store.now c.args.place c.left.result false c.args.a c.left.ensures
    c.child_found.ensures ∙ c.if-not-child_found.false)
    (found_as _ c.args.store.now c.args.place c.right.result true c.args.b c.right.ensures
    c.child_found-2.ensures))
