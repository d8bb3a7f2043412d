-- `order_table::slot_named` meets its contract. Assumes nothing.
use mathlib.Core.Path.{ap, sym, ◌∙◌}
use Rattle.layout.specs.Slots.{slot_of}
use Rattle.layout.specs.Stores.{store_of}
use Rattle.store.proofs.Slots.{slot_within, slot_is}
use Rattle.lookup.specs.Lookup.{is_used}
use Rattle.order_table.proofs.Passed.{unformed}
use Rattle.order_table.proofs.slot_named.Goals as goal

pub slot_of-requires : goal.slot_of-requires
slot_of-requires c = slot_within c.requires

pub returns-then-not-holds_record : goal.returns-then-not-holds_record
returns-then-not-holds_record c =
    let a = c.args in
    unformed (store_of a.store.now).slots a.i
    (ap is_used (slot_is c.requires) ∙ ap (λ x. is_used (slot_of x)) (sym c.slot_of.ensures.0) ∙ sym c.holds_record.ensures ∙ c.if-not-holds_record.true)
