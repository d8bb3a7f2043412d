-- `pocket_prove::one_is_long` meets its contract: the left one, then the right one. Assumes nothing.
use mathlib.Core.Path.{sym, ◌∙◌}
use Rattle.pocket_prove.proofs.Planned.{long_left, right_says}
use Rattle.pocket_prove.proofs.one_is_long.Goals as goal

pub returns-then-not-is_short : goal.returns-then-not-is_short
returns-then-not-is_short c = let a = c.args in long_left a.left a.right (sym c.is_short.ensures ∙ c.if-not-is_short.true)

pub returns : goal.returns
returns c =
    let a = c.args in
    right_says a.left a.right (sym c.is_short.ensures ∙ c.if-not-is_short.false) c.is_short-2.ensures
