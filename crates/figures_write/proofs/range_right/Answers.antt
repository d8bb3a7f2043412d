-- `figures_write::range_right` meets its contract: test by test. Assumes nothing.
use mathlib.Core.Path.{sym, ◌∙◌}
use Rattle.layout.specs.Stores.{store_of}
use Rattle.figures_write.proofs.Ranges.{first_off, last_off, order_off, length_decides}
use Rattle.figures_write.proofs.range_right.Goals as goal

pub returns-then-not-is_kept : goal.returns-then-not-is_kept
returns-then-not-is_kept c =
    let a = c.args in
    first_off (store_of a.store.now) a.first a.last (sym c.is_kept.ensures ∙ c.if-not-is_kept.true)

pub returns-then-not-is_kept-2 : goal.returns-then-not-is_kept-2
returns-then-not-is_kept-2 c =
    let a = c.args in
    last_off (store_of a.store.now) a.first a.last (sym c.is_kept.ensures ∙ c.if-not-is_kept.false)
    (sym c.is_kept-2.ensures ∙ c.if-not-is_kept-2.true)

pub returns-then-last-first : goal.returns-then-last-first
returns-then-last-first c =
    let a = c.args in
    order_off (store_of a.store.now) a.first a.last (sym c.is_kept.ensures ∙ c.if-not-is_kept.false)
    (sym c.is_kept-2.ensures ∙ c.if-not-is_kept-2.false) c.if-last-first.true

pub returns : goal.returns
returns c =
    let a = c.args in
    length_decides (store_of a.store.now) a.first a.last (sym c.is_kept.ensures ∙ c.if-not-is_kept.false)
    (sym c.is_kept-2.ensures ∙ c.if-not-is_kept-2.false) c.if-last-first.false
