-- `check_alone::alone_right` meets its contract: one early return for each test. Assumes nothing.
use mathlib.Core.Path.{sym, ◌∙◌}
use Rattle.check_alone.proofs.Alone.{too_late, wrong_life, counted}
use Rattle.check_alone.proofs.alone_right.Goals as goal

pub returns-then-kept-head : goal.returns-then-kept-head
returns-then-kept-head c = λ o tl. too_late c.requires o tl c.if-kept-head.true

pub returns-then-not-life_right : goal.returns-then-not-life_right
returns-then-not-life_right c = λ o tl. wrong_life c.requires o tl c.if-kept-head.false (sym c.life_right.ensures ∙ c.if-not-life_right.true)

pub returns : goal.returns
returns c =
    λ o tl. counted c.requires o tl c.if-kept-head.false (sym c.life_right.ensures ∙ c.if-not-life_right.false) c.holders.result
    c.holders.ensures
