-- The majority of three bits by their differences, bit by bit: where the second is neither the first nor the third, it is turned. Assumes nothing.
use Prim.Native.Nat.{ℕ, zero, suc, ◌+◌, ◌*◌, ◌/◌, ◌%◌, ◌^◌, ◌<◌}
use mathlib.Core.Path.{◌≡◌, refl, ap, ap₂, sym, ◌∙◌}
use native.Mathlib.Omega.{arith}
use native.Mathlib.Nat.{pow-suc}
use lib.Bits.{bit_and, bit_xor, and_shr, xor_shr, and_mod, xor_mod}
use Rattle.sha256_words.specs.Words.{◌&◌, ◌⊕◌, Maj}

abbrev by_differences : ℕ → ℕ → ℕ → ℕ
by_differences x y z = y ⊕ ((x ⊕ y) & (y ⊕ z))

-- of single bits
bits : (x y z : ℕ) → x < 2 → y < 2 → z < 2 → by_differences x y z ≡ Maj x y z
bits zero zero zero a b c = refl
bits zero zero (suc zero) a b c = refl
bits zero zero (suc (suc z)) a b c = absurd (omega arith)
bits zero (suc zero) zero a b c = refl
bits zero (suc zero) (suc zero) a b c = refl
bits zero (suc zero) (suc (suc z)) a b c = absurd (omega arith)
bits zero (suc (suc y)) z a b c = absurd (omega arith)
bits (suc zero) zero zero a b c = refl
bits (suc zero) zero (suc zero) a b c = refl
bits (suc zero) zero (suc (suc z)) a b c = absurd (omega arith)
bits (suc zero) (suc zero) zero a b c = refl
bits (suc zero) (suc zero) (suc zero) a b c = refl
bits (suc zero) (suc zero) (suc (suc z)) a b c = absurd (omega arith)
bits (suc zero) (suc (suc y)) z a b c = absurd (omega arith)
bits (suc (suc x)) y z a b c = absurd (omega arith)

-- the other bits
halved : (x y z : ℕ) → by_differences x y z / 2 ^ 1 ≡ by_differences (x / 2 ^ 1) (y / 2 ^ 1) (z / 2 ^ 1)
halved x y z = rw (xor_shr y ((x ⊕ y) & (y ⊕ z)) 1, and_shr (x ⊕ y) (y ⊕ z) 1, xor_shr x y 1, xor_shr y z 1) refl

maj_halved : (x y z : ℕ) → Maj x y z / 2 ^ 1 ≡ Maj (x / 2 ^ 1) (y / 2 ^ 1) (z / 2 ^ 1)
maj_halved x y z =
    rw (xor_shr ((x & y) ⊕ (x & z)) (y & z) 1, xor_shr (x & y) (x & z) 1, and_shr x y 1, and_shr x z 1, and_shr y z 1) refl

lowest : (x y z : ℕ) → by_differences x y z % 2 ^ 1 ≡ by_differences (x % 2 ^ 1) (y % 2 ^ 1) (z % 2 ^ 1)
lowest x y z = rw (xor_mod y ((x ⊕ y) & (y ⊕ z)) 1, and_mod (x ⊕ y) (y ⊕ z) 1, xor_mod x y 1, xor_mod y z 1) refl

maj_lowest : (x y z : ℕ) → Maj x y z % 2 ^ 1 ≡ Maj (x % 2 ^ 1) (y % 2 ^ 1) (z % 2 ^ 1)
maj_lowest x y z =
    rw (xor_mod ((x & y) ⊕ (x & z)) (y & z) 1, xor_mod (x & y) (x & z) 1, and_mod x y 1, and_mod x z 1, and_mod y z 1) refl

parts : (n m : ℕ) → n / 2 ^ 1 ≡ m / 2 ^ 1 → n % 2 ^ 1 ≡ m % 2 ^ 1 → n ≡ m
parts n m e f = omega arith

half : (k x : ℕ) → x < 2 ^ suc k → x / 2 ^ 1 < 2 ^ k
half k x h =
    let e : 2 ^ suc k ≡ 2 ^ k * 2 = pow-suc 2 k in
    omega arith

pub majority : (k x y z : ℕ) → x < 2 ^ k → y < 2 ^ k → z < 2 ^ k → by_differences x y z ≡ Maj x y z
majority zero zero zero zero a b c = refl
majority zero zero zero (suc z) a b c = absurd (omega arith)
majority zero zero (suc y) z a b c = absurd (omega arith)
majority zero (suc x) y z a b c = absurd (omega arith)
majority (suc k) x y z a b c =
    parts (by_differences x y z) (Maj x y z)
    (halved x y z ∙ majority k (x / 2 ^ 1) (y / 2 ^ 1) (z / 2 ^ 1) (half k x a) (half k y b) (half k z c) ∙ sym (maj_halved x y z))
    (lowest x y z ∙ bits (x % 2 ^ 1) (y % 2 ^ 1) (z % 2 ^ 1) (omega arith) (omega arith) (omega arith) ∙ sym (maj_lowest x y z))
