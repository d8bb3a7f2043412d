-- A slot that was read is written with its counts, by its kind. Assumes nothing.
use Prim.Native.Nat.{ℕ}
use native.Mathlib.Omega.{arith}
use mathlib.Core.Path.{◌≡◌, refl, ap, ap₂, sym, ◌∙◌}
use lib.ListN.{length, take}
use lib.Seq.{take_all}
use Rattle.terms.specs.declared.Form.{Form}
use Rattle.terms.specs.Bits.{Bytes}
use Rattle.terms.specs.Fields.{slice}
use Rattle.terms.specs.Records.{leaf_body, inner_body, Tally, tally, no_tally, Slot, free, used, spoiled}
use Rattle.moved.specs.Moving.{counting}
use Rattle.place.specs.Place.{place_of}
use Rattle.layout.specs.Slots.{value_inside, grant_in, leaf_in, record_of, slot_of, SlotLong}
use Rattle.layout.specs.Stores.{slot_in, slot_no, Has, with_slot}
use Rattle.slots.specs.declared.Child as declared-child
use Rattle.slots.specs.declared.Kind as declared-kind
use Rattle.slots.specs.declared.Kind.TheVariants.{Free, Leaf, Inner, Spoiled}
use Rattle.slots.specs.declared.Slot as declared
use Rattle.slots.specs.Answer.{child_says, record_says, kind_says, slot_says, Read, grant_body}
use Rattle.layout.proofs.Headers.{size_long}
use Rattle.slots.proofs.Parts.{grant_key, grant_value, value_long}
use Rattle.store.proofs.Slots.{slot_long, slot_within, slot_is}
use Rattle.move_put.specs.Put.{tallied}

-- a leaf's grant is its key and its value
grant_is_leaf : (x : Bytes) → SlotLong x → grant_body (grant_in x) ≡ leaf_in x
unfolding grant_body leaf_in slice
grant_is_leaf x l =
    ap₂ leaf_body (grant_key x) (ap (take 32) (grant_value x) ∙ take_all 32 (value_inside x) (omega (arith, value_long x l)))

module _ {from : Form} (to : Form) {s : Bytes} (t : Bytes) {i : ℕ} (h : Has from s i) {x : Bytes} (here : x ≡ slot_in from i s) {r : declared.Slot}
    (read : Read x r) (l m : ℕ) where
  its_slot : {k : declared-kind.Kind} → r.kind ≡ k → slot_no from i s ≡ kind_says k r x
  unfolding slot_says
  its_slot e = slot_is h ∙ ap slot_of (sym here) ∙ sym read.says ∙ ap (λ k. kind_says k r x) e

  -- the slot as it is to be written
  abbrev Put : Bytes → Type 0
  Put u = u ≡ with_slot to i (tallied (tally l m) (slot_no from i s)) t

  so : {k : declared-kind.Kind} {y : Slot} {u : Bytes} → r.kind ≡ k → tallied (tally l m) (kind_says k r x) ≡ y → u ≡ with_slot to i y t → Put u
  so e f g = g ∙ ap (λ y. with_slot to i y t) (sym f ∙ sym (ap (tallied (tally l m)) (its_slot e)))

  pub puts_free : {u : Bytes} → r.kind ≡ Free → u ≡ with_slot to i free t → Put u
  unfolding kind_says
  puts_free e g = so e refl g

  pub puts_leaf : {u : Bytes} (g : Bytes) → r.kind ≡ Leaf → g ≡ grant_in x →
      u ≡ with_slot to i (used (record_of (place_of r.place) r.version r.retired (grant_body g) no_tally)) t → Put u
  unfolding kind_says record_says counting leaf_in
  puts_leaf g e f p =
      so e (ap (λ b. used (record_of (place_of r.place) r.version r.retired b no_tally)) (sym (ap grant_body f ∙ grant_is_leaf x (size_long from x (ap length here ∙ slot_long from i s (slot_within h)))))) p

  pub puts_inner : {u : Bytes} (a b : declared-child.Child) → r.kind ≡ Inner a b →
      u ≡ with_slot to i (used (record_of (place_of r.place) r.version r.retired (inner_body (child_says a) (child_says b)) (tally l m))) t → Put u
  unfolding kind_says record_says counting
  puts_inner a b e g = so e refl g

  pub none_spoiled : {A : Type 0} → r.kind ≡ Spoiled → ((y : Bytes) → slot_no from i s ≡ spoiled y → ⊥) → A
  unfolding kind_says
  none_spoiled e f = absurd (f x (its_slot e))
