-- `index_open::opened` meets its contract: the sizes are tested first, then the store. Assumes nothing.
use mathlib.Core.Path.{sym, ◌∙◌}
use Rattle.index_rules.specs.Tables.{other_length, checked}
use Rattle.index_open.proofs.Opening.{opened_wrong_size}
use Rattle.index_open.proofs.opened.Goals as goal

pub returns-then-not-size_right : goal.returns-then-not-size_right
returns-then-not-size_right c = let a = c.args in opened_wrong_size a.store.now a.table.now (sym c.size_right.ensures ∙ c.if-not-size_right.true)

pub slot_count-requires : goal.slot_count-requires
slot_count-requires c = sym c.size_right.ensures ∙ c.if-not-size_right.false

pub returns-then-table-slot_count : goal.returns-then-table-slot_count
returns-then-table-slot_count c = other_length (λ f. c.if-table-slot_count.true (f ∙ sym c.slot_count.ensures))

pub returns : goal.returns
returns c = checked (c.if-table-slot_count.false ∙ c.slot_count.ensures) c.check.ensures
