-- `check_own::leaf_right` meets its contract. Assumes nothing.
use mathlib.Core.Path.{ap, ◌∙◌}
use Rattle.layout.specs.Slots.{bits_in, key_in}
use Rattle.layout.specs.Stores.{slot_in}
use Rattle.store.proofs.Slots.{slot_within}
use Rattle.check_pass.proofs.Passes.{pass_map}
use Rattle.check_own.proofs.Owning.{leaf_place, key_begins}
use Rattle.check_own.proofs.leaf_right.Goals as goal

pub slot_of-s-requires : goal.slot_of-s-requires
slot_of-s-requires c = slot_within c.requires.0

pub count_at-count-requires : goal.count_at-count-requires
count_at-count-requires c = slot_within c.requires.0

pub place_at-place-requires : goal.place_at-place-requires
place_at-place-requires c =
    leaf_place (slot_in c.args.form c.args.i c.args.store.now) c.requires.1 c.count_at-count.ensures
    (c.bits_of.ensures.0 ∙ ap bits_in c.slot_of-s.ensures.0) c.bits_of.ensures.1

pub returns : goal.returns
returns c =
    let key = key_begins (slot_in c.args.form c.args.i c.args.store.now) c.count_at-count.ensures
    (c.bits_of.ensures.0 ∙ ap bits_in c.slot_of-s.ensures.0) c.place_at-place.ensures
    (c.key_of.ensures.0 ∙ ap key_in c.slot_of-s.ensures.0) c.begins.ensures c.if-not-begins.false in
    pass_map c.head_right.result (λ h. record { head = h; key = key }) c.head_right.ensures
