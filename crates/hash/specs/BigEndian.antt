-- FIPS 180-4, 3.1: numbers as bytes, the top byte first. Assumes nothing.
use Rattle.std.specs.Prelude.{ℕ, zero, suc, ◌+◌, ◌*◌, ◌/◌, ◌%◌, ◌^◌, [], ◌∷◌, length, get_or}
use Rattle.terms.specs.Bits.{Bytes}

-- The last n bytes of a number.
abbrev pub big : ℕ → ℕ → Bytes
big zero x = []
big (suc n) x = x / 2 ^ (n * 8) % 256 ∷ big n x

-- The number that a string of bytes spells.
abbrev pub number : Bytes → ℕ
number [] = 0
number (x ∷ xs) = x * 2 ^ (length xs * 8) + number xs

-- The word of 32 bits that begins at byte p.
unfoldable pub word_at : Bytes → ℕ → ℕ
word_at l p = get_or l p 0 * 2 ^ 24 + get_or l (p + 1) 0 * 2 ^ 16 + get_or l (p + 2) 0 * 2 ^ 8 + get_or l (p + 3) 0
