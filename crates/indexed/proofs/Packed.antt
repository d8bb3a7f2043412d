-- Places compared by their bytes: first the 32 bytes of the bits, unused bits zero, then the bit count. Assumes nothing.
use Prim.Native.Nat.{ℕ, zero, suc, ◌+◌, ◌*◌, ◌≤◌, ◌<◌}
use native.Mathlib.Omega.{arith}
use mathlib.Core.Path.{◌≡◌, refl, ap, sym, ◌∙◌, subst}
use mathlib.Core.Bool.{Bool, true, false, not, ◌&&◌, ◌||◌, beq, true≢false}
use mathlib.Core.List.{List, [], ◌∷◌, ◌++◌}
use lib.ListN.{length, take, drop, take-append-drop}
use lib.Dec.{ltb}
use borrow.Author.Tests.{lt-ltb, le-ltb, ltb-true, ltb-false}
use Rattle.terms.specs.Bits.{Bytes, Place, bits, pack, none_set, before}
use Rattle.terms.proofs.Places.{length_bits, length_pack, pack_bytes, place_packed, unused_packed}
use Rattle.terms.proofs.Order.{lex, before_lex}
use Rattle.indexed.specs.Index.{place_before}
use Rattle.indexed.proofs.Before.{place_once}

one_more : (m n : ℕ) → ltb m n ≡ ltb (suc m) (suc n)
one_more m n = go (ltb m n) refl
  where
    go : (b : Bool) → ltb m n ≡ b → b ≡ ltb (suc m) (suc n)
    go true e = let l = ltb-true m n e in sym (lt-ltb (suc m) (suc n) (omega arith))
    go false e = let l = ltb-false m n e in sym (le-ltb (suc m) (suc n) (omega arith))

-- nothing of its length is before a string of zeros
above_zeros : (x b : List Bool) → none_set b ≡ true → length x ≡ length b → lex x b ≡ false
above_zeros [] [] n e = refl
above_zeros [] (c ∷ b) n e = absurd (omega arith)
above_zeros (a ∷ x) [] n e = refl
above_zeros (a ∷ x) (true ∷ b) n e = absurd (true≢false (sym n))
above_zeros (true ∷ x) (false ∷ b) n e = refl
above_zeros (false ∷ x) (false ∷ b) n e = above_zeros x b n (omega arith)

module _ (a b : List Bool) (zeroA : none_set a ≡ true) (zeroB : none_set b ≡ true) where
  -- where the filled up strings are in order, the places are
  by_bits : (p q : Place) → length (p ++ a) ≡ length (q ++ b) → lex (p ++ a) (q ++ b) ≡ true → place_before p q ≡ true
  by_bits [] [] e f = absurd (true≢false (sym f ∙ above_zeros a b zeroB e))
  by_bits [] (c ∷ q) e f = refl
  by_bits (x ∷ p) [] e f = absurd (true≢false (sym f ∙ above_zeros ((x ∷ p) ++ a) b zeroB e))
  by_bits (false ∷ p) (false ∷ q) e f = by_bits p q (omega arith) f
  by_bits (false ∷ p) (true ∷ q) e f = refl
  by_bits (true ∷ p) (false ∷ q) e f = absurd (true≢false (sym f))
  by_bits (true ∷ p) (true ∷ q) e f = by_bits p q (omega arith) f

  tail_eq : (x y : Bool) (s t : List Bool) → x ∷ s ≡ y ∷ t → s ≡ t
  tail_eq x y s t e = cc

  -- where they are equal, the shorter place is before the longer
  by_length : (p q : Place) → p ++ a ≡ q ++ b → place_before p q ≡ ltb (length p) (length q)
  by_length [] [] e = sym (le-ltb 0 0 (omega arith))
  by_length [] (c ∷ q) e = sym (lt-ltb 0 (length (c ∷ q)) (omega arith))
  by_length (x ∷ p) [] e = sym (le-ltb (length (x ∷ p)) 0 (omega arith))
  by_length (false ∷ p) (false ∷ q) e = by_length p q (tail_eq false false _ _ e) ∙ one_more (length p) (length q)
  by_length (false ∷ p) (true ∷ q) e = absurd (true≢false (let z : false ≡ true = cc in sym z))
  by_length (true ∷ p) (false ∷ q) e = absurd (true≢false (let z : true ≡ false = cc in z))
  by_length (true ∷ p) (true ∷ q) e = by_length p q (tail_eq true true _ _ e) ∙ one_more (length p) (length q)

module _ (p q : Place) (shortP : length p ≤ 256) (shortQ : length q ≤ 256) where
  filled : (p : Place) → length p ≤ 256 → bits (pack 32 p) ≡ p ++ drop (length p) (bits (pack 32 p))
  filled p h = sym (take-append-drop (length p) (bits (pack 32 p))) ∙ ap (λ x. x ++ drop (length p) (bits (pack 32 p))) (place_packed 32 p (omega arith))

  whole : (p : Place) → length (bits (pack 32 p)) ≡ 256
  whole p = simp (length_bits, length_pack)

  -- by bytes before: before
  pub bytes_before : before (pack 32 p) (pack 32 q) ≡ true → place_before p q ≡ true
  bytes_before e =
      by_bits (drop (length p) (bits (pack 32 p))) (drop (length q) (bits (pack 32 q))) (unused_packed 32 p) (unused_packed 32 q) p q
      (ap length (sym (filled p shortP)) ∙ (whole p ∙ (sym (whole q) ∙ ap length (filled q shortQ))))
      (rw (← filled p shortP, ← filled q shortQ, ← before_lex (pack 32 p) (pack 32 q) (pack_bytes 32 p) (pack_bytes 32 q)) e)

  -- with equal bytes, by the bit count
  pub bytes_equal : pack 32 p ≡ pack 32 q → place_before p q ≡ ltb (length p) (length q)
  bytes_equal e =
      by_length (drop (length p) (bits (pack 32 p))) (drop (length q) (bits (pack 32 q))) (unused_packed 32 p) (unused_packed 32 q) p q
      (sym (filled p shortP) ∙ (ap bits e ∙ filled q shortQ))
