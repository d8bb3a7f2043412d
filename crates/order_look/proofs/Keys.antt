-- Keys are compared field by field, and the key that a slot's bytes say is that of the record in it. Assumes nothing.
use Prim.Native.Nat.{ℕ, zero, suc, ◌<◌}
use native.Mathlib.Omega.{arith}
use mathlib.Core.Path.{◌≡◌, refl, sym, ◌∙◌, subst}
use mathlib.Core.Bool.{Bool, true, false, ◌&&◌, ◌||◌, true≢false, false≢true}
use mathlib.Core.List.{List, [], ◌∷◌, ◌++◌}
use lib.ListN.{length, get_or}
use lib.Dec.{ltb, eqb}
use borrow.Author.Tests.{lt-ltb, le-ltb, eq-eqb}
use Rattle.terms.specs.declared.Form.TheVariants.{Counted as counted}
use Rattle.terms.specs.Bits.{Bytes, Byte, All, before}
use Rattle.terms.specs.Records.{Record, Slot, free, used}
use Rattle.meaning.proofs.Finding.{free_used}
use Rattle.layout.specs.Slots.{count_in, slot_of}
use Rattle.layout.specs.Stores.{slot_in, store_of, Has}
use Rattle.store.proofs.Slots.{slot_long, slot_bytes_lem, slot_within, slot_is}
use Rattle.lookup.proofs.Matching.{version_is, count_is_lem, bits_are}
use Rattle.ordered.specs.Ordered.{node_key, key_no, InForm}
use Rattle.ordered.proofs.Ordered.{key_of}
use Rattle.std.specs.declared.cmp.Ordering.{Ordering}
use Rattle.std.specs.declared.cmp.Ordering.TheVariants.{Less, Equal, Greater}
use Rattle.order_look.specs.Looks.{head_key, key_in, BytesStand, VersionsStand}
use Rattle.std.specs.Ordering.{MatchOrdering, is_ne}

-- a slot that holds a record is one of the store's
pub inside : (s : List Slot) (i : ℕ) (r : Record) → get_or s i free ≡ used r → i < length s
inside [] i r e = free_used r e
inside (x ∷ s) zero r e = omega arith
inside (x ∷ s) (suc i) r e = let l = inside s i r e in omega arith

pub before_longer : (xs ys us ws : Bytes) → length xs ≡ length ys → before xs ys ≡ true → before (xs ++ us) (ys ++ ws) ≡ true
before_longer [] [] us ws l e = absurd (false≢true e)
before_longer [] (y ∷ ys) us ws l e = absurd (omega arith)
before_longer (x ∷ xs) [] us ws l e = absurd (omega arith)
before_longer (x ∷ xs) (y ∷ ys) us ws l e = go (ltb x y) (eqb x y) (before_longer xs ys us ws (omega arith)) e
  where
    go : (a b : Bool) → (before xs ys ≡ true → before (xs ++ us) (ys ++ ws) ≡ true) →
        a || (b && before xs ys) ≡ true → a || (b && before (xs ++ us) (ys ++ ws)) ≡ true
    go true b h f = refl
    go false true h f = h f
    go false false h f = absurd (false≢true f)

pub before_common : (xs us ws : Bytes) → before us ws ≡ true → before (xs ++ us) (xs ++ ws) ≡ true
before_common [] us ws e = e
before_common (x ∷ xs) us ws e = rw (le-ltb x x (omega arith), eq-eqb x x refl) (before_common xs us ws e)

module _ (c d : ℕ) (x y : Bytes) (v w : ℕ) where
  pub by_count_lem : c < d → before (head_key c x v) (head_key d y w) ≡ true
  unfolding head_key
  by_count_lem l = rw (lt-ltb c d l)

  pub by_bits : c ≡ d → length x ≡ length y → before x y ≡ true → before (head_key c x v) (head_key d y w) ≡ true
  unfolding head_key
  by_bits e l f = rw (le-ltb c d (omega arith), eq-eqb c d e) (before_longer x y (v ∷ []) (w ∷ []) l f)

  by_version : c ≡ d → x ≡ y → v < w → before (head_key c x v) (head_key d y w) ≡ true
  unfolding head_key
  by_version e f l =
      rw (le-ltb c d (omega arith), eq-eqb c d e)
      (subst (λ z. before (x ++ (v ∷ [])) (z ++ (w ∷ [])) ≡ true) f (before_common x (v ∷ []) (w ∷ []) (rw (lt-ltb v w l))))

  pub all_same : c ≡ d → x ≡ y → v ≡ w → head_key c x v ≡ head_key d y w
  all_same e f g = rw (e, f, g)

-- Of the same bit count and bits, the versions decide.
pub by_versions : (c d : ℕ) (x y : Bytes) (v w : ℕ) → c ≡ d → x ≡ y → (r : Ordering) → VersionsStand r v w → BytesStand r (head_key c x v) (head_key d y w)
by_versions c d x y v w e f Less l = by_version c d x y v w e f l
by_versions c d x y v w e f Greater l = by_version d c y x w v (sym e) (sym f) l
by_versions c d x y v w e f Equal l = all_same c d x y v w e f l

-- what a comparison of two versions says
pub versions_stand : (v w : ℕ) (r : Ordering) → MatchOrdering r (v < w) (v ≡ w) (w < v) → VersionsStand r v w
versions_stand v w Less l = l
versions_stand v w Equal l = l
versions_stand v w Greater l = l

-- The bit count decides unless it is the same, then the bits.
module _ (c d : ℕ) (x y : Bytes) (v w : ℕ) where
  pub counts_decide : (a : Ordering) → MatchOrdering a (c < d) (c ≡ d) (d < c) → is_ne a ≡ true → BytesStand a (head_key c x v) (head_key d y w)
  counts_decide Less l n = by_count_lem c d x y v w l
  counts_decide Equal l n = absurd (false≢true n)
  counts_decide Greater l n = by_count_lem d c y x w v l

  pub counts_same : (a : Ordering) → MatchOrdering a (c < d) (c ≡ d) (d < c) → is_ne a ≡ false → c ≡ d
  counts_same Less l n = absurd (true≢false n)
  counts_same Equal l n = l
  counts_same Greater l n = absurd (true≢false n)

  pub bits_decide : c ≡ d → length x ≡ length y → (a : Ordering) → BytesStand a x y → is_ne a ≡ true → BytesStand a (head_key c x v) (head_key d y w)
  bits_decide e long Less l n = by_bits c d x y v w e long l
  bits_decide e long Equal l n = absurd (false≢true n)
  bits_decide e long Greater l n = by_bits d c y x w v (sym e) (sym long) l

  pub bits_same : (a : Ordering) → BytesStand a x y → is_ne a ≡ false → x ≡ y
  bits_same Less l n = absurd (true≢false n)
  bits_same Equal l n = l
  bits_same Greater l n = absurd (true≢false n)

module _ {s : Bytes} {i : ℕ} (b : All Byte s) (has : Has counted s i) where
  -- The key of a slot in form is the one that its bytes say.
  pub key_in_lem : InForm (store_of s).slots i → key_in (slot_in counted i s) ≡ key_no (store_of s).slots i
  unfolding node_key head_key count_in
  key_in_lem (r, e) =
      let long = slot_long counted i s (slot_within has) in
      let whole = slot_bytes_lem counted i s b in
      let here : slot_of (slot_in counted i s) ≡ used r = sym (slot_is has) ∙ e in
      rw (count_is_lem counted (slot_in counted i s) long whole r here, bits_are counted (slot_in counted i s) long whole r here, version_is counted (slot_in counted i s) long whole r here) (sym (key_of (store_of s).slots i r e))
