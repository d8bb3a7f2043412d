-- The record that a slot holds, from its bytes: a leaf where they are one, else an inner record. Assumes nothing.
use Prim.Native.Nat.{ℕ}
use mathlib.Core.Path.{◌≡◌, refl, ap, ap₂, sym, ◌∙◌, subst}
use mathlib.Core.Bool.{Bool, true, false}
use lib.ListN.{get_or}
use Rattle.terms.specs.declared.Form.TheVariants.{Counted as counted}
use Rattle.terms.specs.Bits.{Bytes}
use Rattle.terms.specs.Records.{Child, leaf_body, inner_body, tally, Record, free, used}
use Rattle.hash.specs.declared.Hash.{Hash}
use Rattle.hash.specs.Hash.{hash_bytes}
use Rattle.layout.specs.Slots.{is_leaf, version_in, key_in, value_inside, left_in, right_in, counts_in, leaf_in, inner_in, record_in, slot_of}
use Rattle.layout.specs.Stores.{slot_in, store_of, SlotWithin}
use Rattle.layout.proofs.Slots.{record_is}
use Rattle.layout.proofs.Stores.{slot_at_lem}
use Rattle.slots.specs.declared.Child as child
use Rattle.slots.specs.Answer.{child_says}
use Rattle.std.specs.declared.option.Option as option
use Rattle.std.specs.Prelude.{Some}
use Rattle.apply_place.specs.declared.Node.TheVariants as N
use Rattle.apply_place.proofs.Changing.{stored_room, slot_within}
use Rattle.apply_read.specs.declared.Onward.TheVariants.{End, Inner}
use Rattle.apply_read.specs.Held.{Used, NodeHeld, GoesOn}

leaf_record : (x : Bytes) (r : Record) → slot_of x ≡ used r → is_leaf x ≡ true → r ≡ record_in x (leaf_in x)
leaf_record x r e l = sym (rw l at (record_is x r e))

inner_record : (x : Bytes) (r : Record) → slot_of x ≡ used r → is_leaf x ≡ false → r ≡ record_in x (inner_in x)
inner_record x r e l = sym (rw l at (record_is x r e))

module _ {s : Bytes} {i : ℕ} (w : Used s i) where
  pub slot_there : SlotWithin counted i s
  slot_there = slot_within w.stored i w.within

  module _ {x : Bytes} (d : x ≡ slot_in counted i s) where
    its_slot : (r : Record) → get_or (store_of s).slots i free ≡ used r → slot_of x ≡ used r
    its_slot r u = ap slot_of d ∙ sym (slot_at_lem counted s i (rw (stored_room w.stored) w.within)) ∙ u

    pub leaf_held : {v : ℕ} (k y : Hash) {t : Bool} → t ≡ is_leaf x → t ≡ true → v ≡ version_in x → hash_bytes k ≡ key_in x →
        hash_bytes y ≡ value_inside x → NodeHeld s i (N.Leaf v k y)
    unfolding record_in leaf_in
    leaf_held k y l e v a b r u =
        let h = leaf_record x r (its_slot r u) (sym l ∙ e) in
        (v ∙ sym (ap (λ (q : Record). q.version) h), ap (λ (q : Record). q.body) h ∙ sym (ap₂ leaf_body a b))

    pub inner_held : {v : ℕ} (lchild rchild : child.Child) {t : Bool} → t ≡ is_leaf x → t ≡ false → v ≡ version_in x → child_says lchild ≡ left_in x →
        child_says rchild ≡ right_in x → {m n : ℕ} → m ≡ (counts_in x).leftward → n ≡ (counts_in x).rightward → NodeHeld s i (N.Inner v lchild rchild m n)
    unfolding record_in inner_in
    inner_held lchild rchild l e v a b f g r u =
        let h = inner_record x r (its_slot r u) (sym l ∙ e) in (
          v ∙ sym (ap (λ (q : Record). q.version) h),
          ap (λ (q : Record). q.body) h ∙ sym (ap₂ inner_body a b),
          ap (λ (q : Record). q.counts) h ∙ sym (ap₂ tally f g),
        )

    pub ends_held : {f : option.Option ℕ} {t : Bool} → f ≡ Some i → t ≡ is_leaf x → t ≡ true → GoesOn s f End
    unfolding record_in leaf_in
    ends_held e l z =
        subst (λ g. GoesOn s g End) (sym e) (λ r u. (_, _, ap (λ (q : Record). q.body) (leaf_record x r (its_slot r u) (sym l ∙ z))))

    pub goes_held : {f : option.Option ℕ} {t : Bool} {l r : ℕ} → f ≡ Some i → t ≡ is_leaf x → t ≡ false → l ≡ (left_in x).version → r ≡ (right_in x).version →
        GoesOn s f (Inner i l r)
    unfolding record_in inner_in
    goes_held {l = m} {r = n} e l z a b =
        subst (λ g. GoesOn s g (Inner i m n)) (sym e)
        (refl, λ r u. (_, _, ap (λ (q : Record). q.body) (inner_record x r (its_slot r u) (sym l ∙ z)), a, b))
