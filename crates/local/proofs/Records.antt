-- Scans over the slots of a store, told of the records that stand in them. Assumes nothing.
use Prim.Native.Nat.{ℕ, ◌≤◌}
use native.Mathlib.Omega.{arith}
use mathlib.Core.Path.{◌≡◌, refl, sym, subst}
use mathlib.Core.Bool.{Bool, true}
use lib.ListN.{get_or}
use Rattle.terms.specs.Bits.{Bytes}
use Rattle.terms.specs.Records.{Record, Slot, free, used, spoiled, Store}
use Rattle.meaning.specs.Sound.{At}
use Rattle.local.specs.Test.{every, total, by_record}
use Rattle.local.proofs.Says.{Says}
use Rattle.local.proofs.Scans.{every_at, at_every, at_total, total_at, one_counted, count_one}

-- a slot is free or spoiled, or holds a record
pub slot_elim : (P : Slot → Type 0) (y : Slot) →
    P free → ((x : Bytes) → y ≡ spoiled x → P (spoiled x)) → ((r : Record) → y ≡ used r → P (used r)) → P y
slot_elim P free f s u = f
slot_elim P (used r) f s u = u r refl
slot_elim P (spoiled x) f s u = s x refl

counted_record : (f : Record → ℕ) (y : Slot) → 1 ≤ by_record 0 f y → (r : Record) × (y ≡ used r) × (1 ≤ f r)
counted_record f free h = absurd (omega arith)
counted_record f (used r) h = (r, refl, h)
counted_record f (spoiled x) h = absurd (omega arith)

module _ (st : Store) where
  -- a test of each record
  pub each_record : (f : Record → Bool) (P : Record → Type 0) → ((r : Record) → Says (f r) (P r)) →
      Says (every (by_record true f) st.slots) ((i : ℕ) (r : Record) → At st i r → P r)
  unfolding At
  each_record f P s = record {
    passed = λ h i r a. (s r).passed (subst (λ y. by_record true f y ≡ true) a.1 (every_at (by_record true f) st.slots free h i a.0));
    passes = λ h. at_every (by_record true f) st.slots free (λ i l.
        slot_elim (λ y. by_record true f y ≡ true) (get_or st.slots i free) refl (λ x e. refl) (λ r e. (s r).passes (h i r (l, e))));
  }

  pub record_total : (f : Record → ℕ) (i : ℕ) (r : Record) → At st i r → f r ≤ total (by_record 0 f) st.slots
  unfolding At
  record_total f i r a =
      subst (λ y. by_record 0 f y ≤ total (by_record 0 f) st.slots) a.1 (at_total (by_record 0 f) st.slots free i a.0)

  pub total_record : (f : Record → ℕ) → 1 ≤ total (by_record 0 f) st.slots → (i : ℕ) × (r : Record) × At st i r × (1 ≤ f r)
  unfolding At
  total_record f h =
      let (i, l, k) = total_at (by_record 0 f) st.slots free h in
      let (r, e, c) = counted_record f (get_or st.slots i free) k in
      (i, r, (l, e), c)

  pub one_record : (f : Record → ℕ) → total (by_record 0 f) st.slots ≤ 1 →
      (i j : ℕ) (r q : Record) → At st i r → At st j q → 1 ≤ f r → 1 ≤ f q → i ≡ j
  unfolding At
  one_record f h i j r q a b k l =
      one_counted (by_record 0 f) st.slots free h i j a.0 b.0
      (subst (λ y. 1 ≤ by_record 0 f y) (sym a.1) k) (subst (λ y. 1 ≤ by_record 0 f y) (sym b.1) l)

  pub record_one : (f : Record → ℕ) → ((i : ℕ) (r : Record) → At st i r → f r ≤ 1) →
      ((i j : ℕ) (r q : Record) → At st i r → At st j q → 1 ≤ f r → 1 ≤ f q → i ≡ j) → total (by_record 0 f) st.slots ≤ 1
  unfolding At
  record_one f h u =
      count_one (by_record 0 f) st.slots free
      (λ i l. slot_elim (λ y. by_record 0 f y ≤ 1) (get_or st.slots i free) (omega arith) (λ x e. omega arith) (λ r e. h i r (l, e)))
      (λ i j k l a b.
      let (r, e, c) = counted_record f (get_or st.slots i free) a in
      let (q, g, d) = counted_record f (get_or st.slots j free) b in
      u i j r q (k, e) (l, g) c d)
