-- What the own fields of a slot's bytes say is said of its record. Assumes nothing.
use Prim.Native.Nat.{ℕ, ◌≤◌}
use native.Mathlib.Omega.{arith}
use mathlib.Core.Path.{◌≡◌, refl, ap, sym, ◌∙◌, subst}
use mathlib.Core.Bool.{Bool, true, false}
use lib.ListN.{length, take, drop}
use Rattle.terms.specs.declared.Form.{Form}
use Rattle.terms.specs.Bits.{Bytes, Byte, All, bits, begins, none_set}
use Rattle.terms.specs.Fields.{all_zero}
use Rattle.terms.specs.Records.{Body, Slot, free, used}
use Rattle.meaning.specs.Sound.{At}
use Rattle.meaning.proofs.Finding.{used_eq, free_used, spoiled_used}
use Rattle.local.specs.Test.{life_test}
use Rattle.place.specs.declared.Place as declared-place
use Rattle.place.specs.Place.{place_of, Stands}
use Rattle.layout.specs.Slots.{count_in, bits_in, place_in, version_in, since_in, key_in, leaf_in, inner_in, record_in, is_leaf, is_inner, slot_of}
use Rattle.layout.specs.Stores.{slot_in, store_in, slot_no, Has}
use Rattle.slots.proofs.Reading.{leaf_head}
use Rattle.lookup.proofs.Matching.{says}
use Rattle.check_kin.specs.declared.Kept as declared-kept
use Rattle.check_kin.specs.Kin.{Keeps}
use Rattle.store.proofs.Slots.{slot_is}
use Rattle.check_alone.specs.Parts.{life_right}
use Rattle.check_pass.specs.Passes.{Passed}
use Rattle.check_pass.proofs.Records.{free_spoiled, read_long, read_bytes}
use Rattle.check_seen.specs.Seen.{key_test, Own, OwnAt}
use Rattle.check_own.specs.Own.{HeadOwn, LeafOwn}

-- the head of a record, as it was read
pub head_own : (k : declared-kept.Kept) (x : Bytes) {v n : ℕ} → v ≡ version_in x → n ≡ since_in x → v ≤ k.latest →
    (t : Bool) → t ≡ life_right k v n → Passed t (HeadOwn k x)
head_own k x version retired late true life = record { latest = omega (arith, version, late); life = rw (← version, ← retired) (sym life) }
head_own k x version retired late false life = tt

-- the place of a leaf in form can be read
pub leaf_place : (x : Bytes) → is_leaf x ≡ true → {c : ℕ} → c ≡ count_in x → {y : Bytes} → y ≡ bits_in x → length y ≡ 32 →
    (length y ≡ 32) × (c ≤ 256) × (none_set (drop c (bits y)) ≡ true)
leaf_place x e f g l = let (a, b) = leaf_head x e in (l, omega (arith, a, f), rw (f, g) b)

-- a leaf's key, as it was read
pub key_begins : (x : Bytes) {c : ℕ} {p : declared-place.Place} {y z : Bytes} {t : Bool} → c ≡ count_in x → z ≡ bits_in x → Stands (take c (bits z)) c p → y ≡ key_in x →
    t ≡ begins (place_of p) y → t ≡ true → begins (place_in x) (key_in x) ≡ true
unfolding place_in
key_begins x {c} {p} e k w g f t =
    ap (λ n. begins (take n (bits (bits_in x))) (key_in x)) (sym e)
    ∙ ap (λ b. begins (take c (bits b)) (key_in x)) (sym k)
    ∙ ap (λ q. begins q (key_in x)) (sym w.place)
    ∙ ap (begins (place_of p)) (sym g) ∙ sym f ∙ t

module _ {fm : Form} {s : Bytes} {i : ℕ} (h : Has fm s i) (bytes : All Byte s) {k : declared-kept.Kept} (keeps : Keeps fm s k) where
  is : {y : Slot} → slot_of (slot_in fm i s) ≡ y → slot_no fm i s ≡ y
  is e = slot_is h ∙ e

  pub free_own : all_zero (slot_in fm i s) ≡ true → OwnAt (store_in fm s) i
  unfolding At slot_of
  free_own z =
      let e : slot_of (slot_in fm i s) ≡ free = rw z in
      record { whole = λ y f. free_spoiled y (sym (is e) ∙ f); own = λ r a. free_used r (sym (is e) ∙ a.1) }

  module _ (b : Body) (e : slot_of (slot_in fm i s) ≡ used (record_in (slot_in fm i s) b)) (o : HeadOwn k (slot_in fm i s)) (key : key_test (place_in (slot_in fm i s)) b ≡ true) where
    fields_own : Own (store_in fm s) (record_in (slot_in fm i s) b)
    unfolding record_in life_test life_right
    fields_own = record {
      some = (says {fm = fm} (slot_in fm i s) (read_long h refl) (read_bytes h refl bytes) (record_in (slot_in fm i s) b) e).form.versioned.0;
      latest = omega (arith, o.latest, keeps.latest);
      life = rw (keeps.oldest, keeps.latest) o.life;
      key = key;
    }

    record_own : OwnAt (store_in fm s) i
    unfolding At
    record_own = record {
      whole = λ y f. spoiled_used y (record_in (slot_in fm i s) b) (sym f ∙ is e);
      own = λ r a. subst (Own (store_in fm s)) (used_eq (record_in (slot_in fm i s) b) r (sym (is e) ∙ a.1)) fields_own;
    }

  pub leaf_own : all_zero (slot_in fm i s) ≡ false → is_leaf (slot_in fm i s) ≡ true → LeafOwn k (slot_in fm i s) → OwnAt (store_in fm s) i
  unfolding slot_of leaf_in
  leaf_own z l o = record_own (leaf_in (slot_in fm i s)) (rw (z, l)) o.head o.key

  pub inner_own : all_zero (slot_in fm i s) ≡ false → is_leaf (slot_in fm i s) ≡ false → is_inner (slot_in fm i s) ≡ true → HeadOwn k (slot_in fm i s) → OwnAt (store_in fm s) i
  unfolding slot_of inner_in
  inner_own z l m o = record_own (inner_in (slot_in fm i s)) (rw (z, l, m)) o refl
