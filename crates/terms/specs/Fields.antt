-- Document 01, 'Bytes': the fields of a record. All numbers little-endian; "zero" bytes must be zero. Assumes nothing.
use Rattle.std.specs.Prelude.{ℕ, zero, suc, ◌+◌, ◌*◌, ◌/◌, ◌%◌, Bool, true, ◌&&◌, List, [], ◌∷◌, ◌++◌, take, drop, replicate, eqb}
use Rattle.terms.specs.Bits.{Bytes}

-- A number in n bytes, the lowest first.
unfoldable pub le : ℕ → ℕ → Bytes
le zero x = []
le (suc n) x = x % 256 ∷ le n (x / 256)

-- The number that bytes stand for, the lowest first.
abbrev pub num : Bytes → ℕ
num [] = 0
num (b ∷ bs) = b + 256 * num bs

-- The n bytes from i on.
unfoldable pub slice : ℕ → ℕ → Bytes → Bytes
slice i n s = take n (drop i s)

-- The number in the n bytes from i on.
unfoldable pub field : ℕ → ℕ → Bytes → ℕ
field i n s = num (slice i n s)

unfoldable pub zero_bytes : ℕ → Bytes
zero_bytes n = replicate n 0

abbrev pub all_zero : Bytes → Bool
all_zero [] = true
all_zero (x ∷ xs) = eqb x 0 && all_zero xs

-- Fields one after the other.
abbrev pub flat : List Bytes → Bytes
flat [] = []
flat (x ∷ xs) = x ++ flat xs

-- Each test of a list passes.
unfoldable pub all_of : List Bool → Bool
all_of [] = true
all_of (t ∷ ts) = t && all_of ts
