-- `index_look::is_right` meets its contract: as many entries ascend as there are records, and the rest is empty. Assumes nothing.
use mathlib.Core.Bool.{not}
use native.Mathlib.Omega.{arith}
use mathlib.Core.Path.{ap, sym, ◌∙◌}
use Rattle.terms.specs.declared.Form.TheVariants.{Counted as counted}
use Rattle.layout.specs.Stores.{store_of}
use Rattle.store.proofs.Slots.{slots_many}
use Rattle.index_look.proofs.Nodes.{sound_size}
use Rattle.index_look.proofs.Entries.{decided_so, decided_not, decided_map, used_at_most, right_by, right_ascends, right_rest}
use Rattle.index_look.proofs.is_right.Goals as goal

pub slot_count-n-requires : goal.slot_count-n-requires
slot_count-n-requires c = sound_size c.requires.0

pub ascending-requires : goal.ascending-requires
ascending-requires c =
    let s = c.args.store.now in
    let n = c.slot_count-n.ensures in
    (c.requires.0, n, c.requires.1 ∙ sym n, omega (arith, n, c.used_slots-many.ensures, used_at_most (store_of s).slots, slots_many counted s))

pub returns-then-not-ascending : goal.returns-then-not-ascending
returns-then-not-ascending c =
    let n = c.slot_count-n.ensures in
    λ right. decided_not c.ascending.result (ap not c.if-not-ascending.true) c.ascending.ensures
    (right_ascends c.args.store.now c.args.table.now n (c.requires.1 ∙ sym n) c.used_slots-many.ensures right)

pub rest_empty-requires : goal.rest_empty-requires
rest_empty-requires c =
    let s = c.args.store.now in
    let n = c.slot_count-n.ensures in
    (c.requires.1 ∙ sym n, omega (arith, n, c.used_slots-many.ensures, used_at_most (store_of s).slots, slots_many counted s))

pub returns : goal.returns
returns c =
    let s = c.args.store.now in
    let t = c.args.table.now in
    let n = c.slot_count-n.ensures in
    let fits = c.requires.1 ∙ sym n in
    let many = c.used_slots-many.ensures in
    let up = decided_so c.ascending.result (ap not c.if-not-ascending.false) c.ascending.ensures in
    decided_map c.rest_empty.result (λ rest. right_by s t n fits many up rest) (λ right. right_rest s t n fits many right) c.rest_empty.ensures
