-- `read_descent::leaf_at` meets its contract: key and value are read where they lie in the slot. Assumes nothing.
use mathlib.Core.Path.{ap, ◌∙◌}
use Rattle.terms.specs.declared.Form.TheVariants.{Counted as counted}
use Rattle.terms.specs.Bits.{begins}
use Rattle.place.specs.Place.{place_of}
use Rattle.layout.specs.Slots.{key_in, value_inside}
use Rattle.layout.specs.Stores.{slot_in}
use Rattle.store.proofs.Slots.{slot_fits}
use Rattle.read_descent.proofs.Descending.{leaf_stray, leaf_over, leaf_there, key_whole, value_whole}
use Rattle.read_descent.proofs.leaf_at.Goals as goal

pub slot_of-slot-requires : goal.slot_of-slot-requires
slot_of-slot-requires c = slot_fits counted c.args.store.now c.requires.size c.args.i c.requires.inside

pub returns-then-not-begins : goal.returns-then-not-begins
returns-then-not-begins c =
    let a = c.args in
    leaf_stray (place_of a.place) (slot_in counted a.i a.store.now) a.n (c.begins.ensures ∙ ap (begins (place_of a.place)) (c.key_of.ensures.0 ∙ ap key_in c.slot_of-slot.ensures.0)) c.if-not-begins.true

pub returns-then-n-ne0 : goal.returns-then-n-ne0
returns-then-n-ne0 c =
    let a = c.args in
    leaf_over (place_of a.place) (slot_in counted a.i a.store.now) a.n (c.begins.ensures ∙ ap (begins (place_of a.place)) (c.key_of.ensures.0 ∙ ap key_in c.slot_of-slot.ensures.0)) c.if-not-begins.false c.if-n-ne0.true

pub returns : goal.returns
returns c =
    let a = c.args in
    let x = slot_in counted a.i a.store.now in
    leaf_there (place_of a.place) x a.n (c.begins.ensures ∙ ap (begins (place_of a.place)) (c.key_of.ensures.0 ∙ ap key_in c.slot_of-slot.ensures.0)) c.if-not-begins.false c.if-n-ne0.false
    c.hash_at-key.result c.hash_at-value.result
    (key_whole x (c.key_of-2.ensures.0 ∙ ap key_in c.slot_of-slot.ensures.0) c.hash_at-key.ensures.result_value)
    (value_whole x (c.value_of.ensures.0 ∙ ap value_inside c.slot_of-slot.ensures.0) c.hash_at-value.ensures.result_value)
