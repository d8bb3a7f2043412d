-- `index_open::formatted` meets its contract: the sizes are tested first, then the table is filled and the store formatted. Assumes nothing.
use native.Mathlib.Omega.{arith}
use mathlib.Core.Path.{sym, ◌∙◌}
use Rattle.layout.proofs.Headers.{size_says}
use Rattle.index_rules.specs.Tables.{wrong_size}
use Rattle.index_open.proofs.Opening.{format_wrong_size, formats_both}
use Rattle.index_open.proofs.formatted.Goals as goal

pub returns-then-not-size_right : goal.returns-then-not-size_right
returns-then-not-size_right c = let a = c.args in format_wrong_size a.store.now a.table.now (sym c.size_right.ensures ∙ c.if-not-size_right.true)

pub slot_count-n-requires : goal.slot_count-n-requires
slot_count-n-requires c = sym c.size_right.ensures ∙ c.if-not-size_right.false

pub returns-then-table-n : goal.returns-then-table-n
returns-then-table-n c = wrong_size (λ h f. c.if-table-n.true (f ∙ sym c.slot_count-n.ensures))

pub overflow_cast-n : goal.overflow_cast-n
overflow_cast-n c = record { fits = omega (arith, c.slot_count-n.ensures, size_says _ _ (sym c.size_right.ensures ∙ c.if-not-size_right.false)) }

pub returns : goal.returns
returns c =
    let a = c.args in
    formats_both a.store.now a.table.now (sym c.size_right.ensures ∙ c.if-not-size_right.false) c.slot_count-n.ensures c.if-table-n.false (c.fill.ensures.after (λ y e. e))
    c.format.ensures.answer c.format.ensures.bytes
