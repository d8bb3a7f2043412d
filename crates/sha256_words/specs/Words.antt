-- SHA-256's words of 32 bits, numbers below 2 ^ 32, after FIPS 180-4, 2.2.2 to 4.1.2, in its order and names.
use Rattle.std.specs.Prelude.{ℕ, ◌+◌, ◌*◌, ◌-◌, ◌/◌, ◌%◌, ◌^◌}
use Rattle.std.specs.Int.Bits.{bit_and, bit_or, bit_xor}

-- 2.2.2: bitwise and, exclusive or, complement, and the sum modulo 2 ^ 32.
infixl 60 ◌&◌
abbrev pub ◌&◌ : ℕ → ℕ → ℕ
x & y = bit_and x y

infixl 40 ◌⊕◌
abbrev pub ◌⊕◌ : ℕ → ℕ → ℕ
x ⊕ y = bit_xor x y

abbrev pub complement : ℕ → ℕ
complement x = (2 ^ 32 - 1) - x

infixl 50 ◌⊞◌
abbrev pub ◌⊞◌ : ℕ → ℕ → ℕ
x ⊞ y = (x + y) % 2 ^ 32

-- 3.2: x shifted right by n bits, and rotated right by n bits.
abbrev pub SHR : ℕ → ℕ → ℕ
SHR n x = x / 2 ^ n

abbrev pub ROTR : ℕ → ℕ → ℕ
ROTR n x = bit_or (x / 2 ^ n) ((x * 2 ^ (32 - n)) % 2 ^ 32)

-- 4.1.2: the six functions.
abbrev pub Ch : ℕ → ℕ → ℕ → ℕ
Ch x y z = (x & y) ⊕ (complement x & z)

abbrev pub Maj : ℕ → ℕ → ℕ → ℕ
Maj x y z = (x & y) ⊕ (x & z) ⊕ (y & z)

unfoldable pub Σ₀ : ℕ → ℕ
Σ₀ x = ROTR 2 x ⊕ ROTR 13 x ⊕ ROTR 22 x

unfoldable pub Σ₁ : ℕ → ℕ
Σ₁ x = ROTR 6 x ⊕ ROTR 11 x ⊕ ROTR 25 x

unfoldable pub σ₀ : ℕ → ℕ
σ₀ x = ROTR 7 x ⊕ ROTR 18 x ⊕ SHR 3 x

unfoldable pub σ₁ : ℕ → ℕ
σ₁ x = ROTR 17 x ⊕ ROTR 19 x ⊕ SHR 10 x
