-- Numbers with the top byte first stand to each other as their bytes do; of bits compared eight bytes at a time the first that differ decide. Assumes nothing.
use Prim.Native.Nat.{ℕ, suc, ◌+◌, ◌*◌, ◌^◌, ◌<◌, ◌≤◌}
use native.Mathlib.Omega.{arith}
use native.Mathlib.Nat.{mul-le-mul_right, suc-mul, mod-lt}
use mathlib.Core.Path.{◌≡◌, refl, ap, ap₂, sym, ◌∙◌, subst, subst₂}
use mathlib.Core.Bool.{Bool, true, false, true≢false, false≢true}
use mathlib.Core.List.{[], ◌∷◌, ◌++◌}
use lib.ListN.{length, take, drop, length-take, length-drop, take-append-drop}
use lib.Dec.{ltb}
use lib.Seq.{take-add}
use lib.Pow.{pow_pos}
use borrow.Author.Tests.{ltb-true, ltb-false, eq-eqb}
use Rattle.terms.specs.Bits.{Bytes, Byte, All, before}
use Rattle.terms.proofs.Lists.{all_take, all_drop}
use Rattle.hash.specs.BigEndian.{number, big}
use Rattle.hash.proofs.Digits.{number_big, big_number}
use Rattle.std.specs.declared.cmp.Ordering.{Ordering}
use Rattle.std.specs.declared.cmp.Ordering.TheVariants.{Less, Equal, Greater}
use Rattle.std.specs.Ordering.{MatchOrdering, is_ne}
use Rattle.order_look.specs.Looks.{BytesStand}
use Rattle.order_look.proofs.Keys.{before_longer, before_common}

below : (x : Bytes) → All Byte x → number x < 2 ^ (length x * 8)
below x h = subst (λ n. n < 2 ^ (length x * 8)) (sym (number_big (length x) (number x)) ∙ ap number (big_number x h)) (mod-lt (number x) (pow_pos (length x * 8)))

-- of two numbers the lower has no higher top
tops : (a b p m n : ℕ) → n < p → a * p + m < b * p + n → a ≤ b
tops a b p m n h l = go (ltb b a) refl
  where
    go : (t : Bool) → ltb b a ≡ t → a ≤ b
    go false f = ltb-false b a f
    go true f =
        let more : suc b * p ≤ a * p = mul-le-mul_right p (ltb-true b a f) in
        absurd (omega (arith, suc-mul b p))

number_before : (x y : Bytes) → All Byte x → All Byte y → length x ≡ length y → number x < number y → before x y ≡ true
number_before [] [] hx hy e l = absurd (omega arith)
number_before [] (b ∷ y) hx hy e l = absurd (omega arith)
number_before (a ∷ x) [] hx hy e l = absurd (omega arith)
number_before (a ∷ x) (b ∷ y) (ha, hx) (hb, hy) e l = go (ltb a b) refl (number_before x y hx hy even)
  where
    even : length x ≡ length y
    even = omega arith

    p : ℕ
    p = 2 ^ (length y * 8)

    less : a * p + number x < b * p + number y
    less = subst (λ n. a * 2 ^ (n * 8) + number x < b * p + number y) even l

    go : (t : Bool) → ltb a b ≡ t → (number x < number y → before x y ≡ true) → before (a ∷ x) (b ∷ y) ≡ true
    go true f next = rw f
    go false f next =
        let most = tops a b p (number x) (number y) (below y hy) less in
        let same : a ≡ b = omega (arith, ltb-false a b f) in
        rw (f, eq-eqb a b same) (next (omega (arith, less, ap (λ n. n * p) same)))

-- so many bytes are compared at a time
abbrev width : ℕ
width = 8

module _ (x y : Bytes) (hx : All Byte x) (hy : All Byte y) (e : length x ≡ length y) (at : ℕ) (room : at + 8 ≤ length x) (same : take at x ≡ take at y) where
  -- the eight bytes from `at` on
  abbrev part : Bytes → Bytes
  part z = take width (drop at z)

  whole : (z : Bytes) → All Byte z → All Byte (part z)
  whole z h = all_take Byte 8 (drop at z) (all_drop Byte at z h)

  long : (z : Bytes) → at + 8 ≤ length z → length (part z) ≡ 8
  long z h = simp (length-take, length-drop) (omega arith)

  in_parts : (z : Bytes) → take at z ++ (part z ++ drop width (drop at z)) ≡ z
  in_parts z = ap (λ r. take at z ++ r) (take-append-drop width (drop at z)) ∙ take-append-drop at z

  -- Where all before are the same, the lower eight bytes stand before.
  pub eight_before : number (part x) < number (part y) → before x y ≡ true
  eight_before l =
      subst₂ (λ u w. before u w ≡ true) (in_parts x) (ap (λ r. r ++ (part y ++ drop width (drop at y))) same ∙ in_parts y)
      (before_common (take at x) _ _ (before_longer (part x) (part y) _ _ (long x room ∙ sym (long y (omega arith)))
      (number_before (part x) (part y) (whole x hx) (whole y hy) (long x room ∙ sym (long y (omega arith))) l)))

  -- Where they are the same too, eight more are.
  pub eight_same : number (part x) ≡ number (part y) → take (at + 8) x ≡ take (at + 8) y
  eight_same f =
      let spelt : (z : Bytes) → All Byte z → at + 8 ≤ length z → part z ≡ big 8 (number (part z)) =
      λ z h r. sym (ap (λ n. big n (number (part z))) (sym (long z r)) ∙ big_number (part z) (whole z h)) in
      take-add at 8 x ∙ ap₂ (λ u w. u ++ w) same (spelt x hx room ∙ ap (big 8) f ∙ sym (spelt y hy (omega arith))) ∙ sym (take-add at 8 y)

-- Eight bytes that differ decide, else those behind them.
module _ (x y : Bytes) (hx : All Byte x) (hy : All Byte y) (e : length x ≡ length y) (at : ℕ) (room : at + 8 ≤ length x) (same : take at x ≡ take at y) where
  abbrev Compared : Ordering → Type 0
  Compared r =
      MatchOrdering r (number (take 8 (drop at x)) < number (take 8 (drop at y))) (number (take 8 (drop at x)) ≡ number (take 8 (drop at y)))
      (number (take 8 (drop at y)) < number (take 8 (drop at x)))

  pub eight_decide : (r : Ordering) → Compared r → is_ne r ≡ true → BytesStand r x y
  eight_decide Less l n = eight_before x y hx hy e at room same l
  eight_decide Equal l n = absurd (false≢true n)
  eight_decide Greater l n = eight_before y x hy hx (sym e) at (omega (arith, room, e)) (sym same) l

  pub eight_passed : (r : Ordering) → Compared r → is_ne r ≡ false → take (at + 8) x ≡ take (at + 8) y
  eight_passed Less l n = absurd (true≢false n)
  eight_passed Equal l n = eight_same x y hx hy e at room same l
  eight_passed Greater l n = absurd (true≢false n)
