-- `order_table::names_form` meets its contract. Assumes nothing.
use native.Mathlib.Omega.{arith}
use mathlib.Core.Path.{ap, sym, ◌∙◌}
use Rattle.layout.specs.Slots.{slot_of}
use Rattle.layout.specs.Stores.{store_of}
use Rattle.store.proofs.Slots.{slot_within, slot_is}
use Rattle.lookup.specs.Lookup.{is_used}
use Rattle.check_pass.proofs.Passes.{pass_map}
use Rattle.check_pass.proofs.Records.{room_has}
use Rattle.order_table.proofs.Passed.{formed}
use Rattle.order_table.proofs.names_form.Goals as goal

pub slot_of-requires : goal.slot_of-requires
slot_of-requires c = slot_within (room_has c.requires (omega (arith, c.if-n-i.false)))

pub returns : goal.returns
returns c =
    let a = c.args in
    let has = room_has {i = a.i} c.requires (omega (arith, c.if-n-i.false)) in
    pass_map c.holds_record.result (λ f. (has, f))
    (formed c.holds_record.result (store_of a.store.now).slots a.i
    (c.holds_record.ensures ∙ ap (λ x. is_used (slot_of x)) c.slot_of.ensures.0 ∙ ap is_used (sym (slot_is has))))
