-- `index_entry::look_entry` meets its contract: an entry beyond the slots names none. Assumes nothing.
use native.Mathlib.Omega.{arith}
use mathlib.Core.Path.{ap, sym, ◌∙◌}
use Rattle.terms.specs.declared.Form.TheVariants.{Counted as counted}
use Rattle.indexed.specs.Index.{look_at}
use Rattle.place.specs.Place.{place_of}
use Rattle.layout.specs.Stores.{store_of, slot_no}
use Rattle.store.proofs.Slots.{slots_many}
use Rattle.index_node.specs.Looks.{look_says}
use Rattle.index_entry.specs.Entries.{look_for}
use Rattle.index_entry.proofs.Entries.{beyond}
use Rattle.index_entry.proofs.look_entry.Goals as goal

pub returns-then-n-entry : goal.returns-then-n-entry
returns-then-n-entry c =
    let a = c.args in
    beyond (look_for a.root a.version (place_of a.place)) (store_of a.store.now).slots a.entry
    (omega (arith, slots_many counted a.store.now, c.requires.1, c.if-n-entry.true))

pub look_root-requires : goal.look_root-requires
look_root-requires c = record { size = c.requires.0; inside = omega (arith, c.requires.1, c.if-n-entry.false) }

pub returns-then-root : goal.returns-then-root
returns-then-root c =
    let a = c.args in
    c.look_root.ensures
    ∙ ap (λ b. look_says (look_at (look_for b a.version (place_of a.place)) (slot_no counted a.entry a.store.now))) (sym c.if-root.true)

pub look_node-requires : goal.look_node-requires
look_node-requires c = (record { size = c.requires.0; inside = omega (arith, c.requires.1, c.if-n-entry.false) }, c.requires.2)

pub returns : goal.returns
returns c =
    let a = c.args in
    c.look_node.ensures
    ∙ ap (λ b. look_says (look_at (look_for b a.version (place_of a.place)) (slot_no counted a.entry a.store.now))) (sym c.if-root.false)
