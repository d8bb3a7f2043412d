-- The words of a node's message: a byte that tells its kind and two hashes, 65 bytes, so two blocks. Assumes nothing.
use Rattle.std.specs.Prelude.{ℕ, ◌+◌, ◌*◌, ◌/◌, ◌%◌, ◌^◌, ◌∷◌, ◌++◌}
use Rattle.terms.specs.Bits.{Bytes}
use Rattle.hash.specs.declared.Hash.{Hash}
use Rattle.hash.specs.Hash.{hash_bytes}

abbrev pub message : ℕ → Hash → Hash → Bytes
message t l r = t ∷ (hash_bytes l ++ hash_bytes r)

-- The last byte of x, then the first three of the eight bytes of y.
unfoldable pub seam_word : ℕ → ℕ → ℕ
seam_word x y = x % 256 * 2 ^ 24 + y / 2 ^ 40 % 2 ^ 24

-- The next four of the eight bytes of x.
unfoldable pub middle_word : ℕ → ℕ
middle_word x = x / 2 ^ 8 % 2 ^ 32
