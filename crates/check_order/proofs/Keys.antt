-- The keys of two slots are compared field by field, and a table goes on entry by entry. Assumes nothing.
use Prim.Native.Nat.{ℕ, suc, ◌+◌, ◌-◌, ◌<◌, ◌≤◌}
use native.Mathlib.Omega.{arith}
use mathlib.Core.Path.{◌≡◌, refl, ap, ap₂, sym, ◌∙◌, subst, subst₂}
use mathlib.Core.Bool.{Bool, true, false, ◌&&◌, ◌||◌}
use mathlib.Core.List.{List, [], ◌∷◌, ◌++◌}
use lib.ListN.{length, get_or}
use lib.Dec.{ltb, leb, eqb}
use borrow.Author.Tests.{le-ltb, eq-eqb, ne_eqb, eqb-true, leb-true, leb-false}
use Rattle.terms.specs.declared.Form.{Form}
use Rattle.terms.specs.Bits.{Bytes, before, same_bytes}
use Rattle.terms.proofs.Fields.{length_slice}
use Rattle.terms.proofs.Order.{before_irrefl}
use Rattle.terms.proofs.Tests.{is_false, same_bytes_lem}
use Rattle.layout.specs.Sizes.{slot_size}
use Rattle.layout.specs.Slots.{count_in, bits_in, version_in, since_in}
use Rattle.layout.specs.Stores.{slot_in, Has}
use Rattle.layout.proofs.Headers.{size_small}
use Rattle.check_kin.specs.Kin.{ends_at}
use Rattle.check_pass.specs.Passes.{Passed}
use Rattle.check_pass.proofs.Records.{version_of_lem, read_as}
use Rattle.check_order.specs.Order.{node_key, Stepwise, PartedNo, Named, NamedAt}

shuffled : (a b c d e : Bool) → a || (b && (c || (d && e))) ≡ (a || (b && c)) || ((b && d) && e)
shuffled true b c d e = refl
shuffled false true c d e = refl
shuffled false false c d e = refl

before_joined : (xs ys us ws : Bytes) → length xs ≡ length ys → before (xs ++ us) (ys ++ ws) ≡ before xs ys || (same_bytes xs ys && before us ws)
before_joined [] [] us ws e = refl
before_joined [] (y ∷ ys) us ws e = absurd (omega arith)
before_joined (x ∷ xs) [] us ws e = absurd (omega arith)
before_joined (x ∷ xs) (y ∷ ys) us ws e =
    ap (λ z. ltb x y || (eqb x y && z)) (before_joined xs ys us ws (omega arith))
    ∙ shuffled (ltb x y) (eqb x y) (before xs ys) (same_bytes xs ys) (before us ws)

or_false : (a b : Bool) → a || (b && false) ≡ a
or_false true b = refl
or_false false true = refl
or_false false false = refl

-- two slots' bytes, by the fields that were read of them
module _ (fm : Form) (x y : Bytes) {c d : ℕ} (e : c ≡ count_in x) (f : d ≡ count_in y) where
  pub by_count_lem : (c ≡ d → ⊥) → ltb c d ≡ before (node_key x) (node_key y)
  unfolding node_key
  by_count_lem n = sym (rw (← e, ← f, ne_eqb c d n) (or_false (ltb c d) false))

  module _ (same : c ≡ d) (l : length x ≡ slot_size fm) (m : length y ≡ slot_size fm) where
    bits_first : before (node_key x) (node_key y)
        ≡ before (bits_in x) (bits_in y)
        || (same_bytes (bits_in x) (bits_in y) && before (version_in x ∷ []) (version_in y ∷ []))
    unfolding node_key
    bits_first =
        rw (← e, ← f, le-ltb c d (omega (arith, same)), eq-eqb c d same)
        (before_joined (bits_in x) (bits_in y) (version_in x ∷ []) (version_in y ∷ []) (bits_long x l ∙ sym (bits_long y m)))
      where
        bits_long : (z : Bytes) → length z ≡ slot_size fm → length (bits_in z) ≡ 32
        bits_long z k = length_slice _ 32 z (omega (arith, size_small fm))

    module _ {a b : Bytes} (ae : a ≡ bits_in x) (be : b ≡ bits_in y) {t : Bool} (te : t ≡ same_bytes a b) where
      pub by_version : t ≡ true → {v z : ℕ} → v ≡ version_in x → z ≡ version_in y → ltb v z ≡ before (node_key x) (node_key y)
      by_version g {v} {z} k h =
          let alike : same_bytes (bits_in x) (bits_in y) ≡ true = sym (te ∙ ap₂ same_bytes ae be) ∙ g in
          let equal = same_bytes_lem (bits_in x) (bits_in y) alike in
          let level : before (bits_in x) (bits_in y) ≡ false =
          is_false _ (λ w. before_irrefl (bits_in x) (subst (λ q. before (bits_in x) q ≡ true) (sym equal) w)) in
          sym (bits_first ∙ rw (level, alike, ← k, ← h) (or_false (ltb v z) (eqb v z)))

      pub by_bits : t ≡ false → {p q : Bytes} → p ≡ bits_in x → q ≡ bits_in y → {r : Bool} → r ≡ before p q → r ≡ before (node_key x) (node_key y)
      by_bits g pe qe h =
          let other : same_bytes (bits_in x) (bits_in y) ≡ false = sym (te ∙ ap₂ same_bytes ae be) ∙ g in
          h ∙ ap₂ before pe qe ∙ sym (bits_first ∙ rw other (or_false (before (bits_in x) (bits_in y)) false))

pub pass_named : (b : Bool) (t : List ℕ) (i : ℕ) {m : ℕ} (k : ℕ) → k < m → {w : ℕ} → w ≡ get_or t k 0 → b ≡ eqb w i → Passed b (Named t m i)
pass_named true t i {m} k h {w} f e = (k, h, sym f ∙ eqb-true w i (sym e))
pass_named false t i k h f e = tt

-- one entry more
pub step_next : (P : ℕ → ℕ → Type 0) (t : List ℕ) (k : ℕ) → 1 ≤ k → Stepwise P t k → {a b : ℕ} → a ≡ get_or t (k - 1) 0 → b ≡ get_or t k 0 → P a b →
    Stepwise P t (k + 1)
step_next P t k h steps e f g n l = go (leb (suc (suc n)) k) refl
  where
    go : (c : Bool) → leb (suc (suc n)) k ≡ c → P (get_or t n 0) (get_or t (suc n) 0)
    go true d = steps n (leb-true (suc (suc n)) k d)
    go false d =
        let w = leb-false (suc (suc n)) k d in
        let p : k - 1 ≡ n = omega arith in
        let q : k ≡ suc n = omega arith in
        subst₂ P (e ∙ ap (λ z. get_or t z 0) p) (f ∙ ap (λ z. get_or t z 0) q) g

-- a root, as it was read
pub root_parted : (fm : Form) (latest : ℕ) (s : Bytes) (i j : ℕ) {n e v : ℕ} → n ≡ since_in (slot_in fm i s) → e ≡ ends_at latest n → v ≡ version_in (slot_in fm j s) →
    (b : Bool) → b ≡ leb e v → Passed b (PartedNo fm latest s i j)
root_parted fm latest s i j {e = e} {v = v} retired ends version true h = λ z. rw (← retired, ← ends, ← version) (leb-true e v (sym h))
root_parted fm latest s i j retired ends version false h = tt

pub below_parted : (fm : Form) (latest : ℕ) (s : Bytes) (i j : ℕ) {c : ℕ} → c ≡ count_in (slot_in fm j s) → (c ≡ 0 → ⊥) → PartedNo fm latest s i j
below_parted fm latest s i j e n z = absurd (n (e ∙ z))

-- a slot of version 0 holds no record
pub no_version : {fm : Form} (s : Bytes) (i : ℕ) (t : List ℕ) (m : ℕ) → Has fm s i → {v : ℕ} → v ≡ version_in (slot_in fm i s) → v ≡ 0 → NamedAt fm s t m i
no_version {fm} s i t m h e z r a some = absurd (omega (arith, version_of_lem (slot_in fm i s) r (read_as h refl r a)))

pub record_named : (fm : Form) (s : Bytes) (t : List ℕ) (m i : ℕ) → Named t m i → NamedAt fm s t m i
record_named fm s t m i n r a some = n
