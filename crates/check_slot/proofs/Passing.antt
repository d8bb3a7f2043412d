-- What a slot that was read says decides its test. Assumes nothing.
use Prim.Native.Nat.{ℕ, ◌<◌}
use native.Mathlib.Omega.{arith}
use mathlib.Core.Path.{◌≡◌, ap, sym, ◌∙◌, subst}
use mathlib.Core.Bool.{Bool, true, false}
use Rattle.terms.specs.declared.Form.{Form}
use Rattle.terms.specs.Bits.{Bytes, Byte, All}
use Rattle.terms.specs.Records.{inner_body, Tally, no_tally}
use Rattle.local.specs.Test.{record_test, slot_test}
use Rattle.nodehash.specs.Node.{leaf_hash, inner_hash}
use Rattle.place.proofs.Places.{proper_count}
use Rattle.layout.specs.Slots.{leaf_in, counts_in, slot_of, SlotForm}
use Rattle.layout.specs.Stores.{slot_in, store_in, slot_no, Has}
use Rattle.layout.proofs.Slots.{slot_form}
use Rattle.slots.specs.declared.Child as declared-child
use Rattle.slots.specs.declared.Kind as declared-kind
use Rattle.slots.specs.declared.Kind.TheVariants.{Free, Leaf, Inner, Spoiled}
use Rattle.slots.specs.declared.Slot as declared-slot
use Rattle.slots.specs.Answer.{child_says, record_says, kind_says, slot_says, Read}
use Rattle.check_kin.specs.declared.Kept as declared-kept
use Rattle.check_kin.specs.Kin.{Keeps}
use Rattle.store.proofs.Slots.{slot_long, slot_bytes_lem, slot_within, slot_is}
use Rattle.check_alone.specs.declared.Head as declared
use Rattle.check_alone.specs.Parts.{record_on, Headed}

-- the head of a slot
abbrev head_of : declared-slot.Slot → declared.Head
head_of t = record { place = t.place; version = t.version; retired = t.retired }

module _ {fm : Form} {s : Bytes} {i : ℕ} (h : Has fm s i) {x : Bytes} (here : x ≡ slot_in fm i s) {t : declared-slot.Slot} (read : Read x t) where
  its_slot : {k : declared-kind.Kind} → t.kind ≡ k → slot_no fm i s ≡ kind_says k t x
  unfolding slot_says
  its_slot e = slot_is h ∙ ap slot_of (sym here) ∙ sym read.says ∙ ap (λ m. kind_says m t x) e

  pub free_slot : t.kind ≡ Free → true ≡ slot_test leaf_hash inner_hash (store_in fm s) (slot_no fm i s)
  unfolding kind_says
  free_slot e = sym (ap (slot_test leaf_hash inner_hash (store_in fm s)) (its_slot e))

  pub spoiled_slot : t.kind ≡ Spoiled → false ≡ slot_test leaf_hash inner_hash (store_in fm s) (slot_no fm i s)
  unfolding kind_says
  spoiled_slot e = sym (ap (slot_test leaf_hash inner_hash (store_in fm s)) (its_slot e))

  pub leaf_slot_lem : t.kind ≡ Leaf → {u : Bool} → u ≡ record_test leaf_hash inner_hash (store_in fm s) (record_on (head_of t) (leaf_in x) (counts_in x)) →
      u ≡ slot_test leaf_hash inner_hash (store_in fm s) (slot_no fm i s)
  unfolding kind_says record_says
  leaf_slot_lem e f = f ∙ sym (ap (slot_test leaf_hash inner_hash (store_in fm s)) (its_slot e))

  pub inner_slot_lem : (a b : declared-child.Child) → t.kind ≡ Inner a b → {u : Bool} →
      (tl : Tally) → tl ≡ counts_in x →
      u ≡ record_test leaf_hash inner_hash (store_in fm s) (record_on (head_of t) (inner_body (child_says a) (child_says b)) tl) →
      u ≡ slot_test leaf_hash inner_hash (store_in fm s) (slot_no fm i s)
  unfolding kind_says record_says
  inner_slot_lem a b e tl c f =
      f ∙ ap (λ n. record_test leaf_hash inner_hash (store_in fm s) (record_on (head_of t) (inner_body (child_says a) (child_says b)) n)) c ∙ sym (ap (slot_test leaf_hash inner_hash (store_in fm s)) (its_slot e))

  -- a record that was read is in form
  module _ (bytes : All Byte s) {k : declared-kept.Kept} (keeps : Keeps fm s k) where
    form : {m : declared-kind.Kind} → t.kind ≡ m → SlotForm fm (kind_says m t x)
    form e = subst (SlotForm fm) (sym (slot_is h) ∙ its_slot e) (slot_form fm (slot_in fm i s) (slot_long fm i s (slot_within h)) (slot_bytes_lem fm i s bytes))

    pub leaf_head : t.kind ≡ Leaf → Headed fm s k (head_of t)
    unfolding kind_says record_says
    leaf_head e = record { keeps = keeps; proper = read.proper; version = (form e).0.versioned.0 }

    pub leaf_bare : t.kind ≡ Leaf → counts_in x ≡ no_tally
    unfolding kind_says record_says leaf_in
    leaf_bare e = (form e).0.counts

    pub inner_head_lem : (a b : declared-child.Child) → t.kind ≡ Inner a b → Headed fm s k (head_of t)
    unfolding kind_says record_says
    inner_head_lem a b e = record { keeps = keeps; proper = read.proper; version = (form e).0.versioned.0 }

    pub inner_short : (a b : declared-child.Child) → t.kind ≡ Inner a b → t.place.count < 256
    unfolding kind_says record_says
    inner_short a b e = omega (arith, (form e).0.short, proper_count t.place read.proper)
