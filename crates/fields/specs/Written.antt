-- What writing leaves of lent memory: what was written, and every other byte as it was. Assumes nothing.
use Rattle.std.specs.Prelude.{ℕ, ◌+◌, ◌++◌, length, take, drop}
use Rattle.terms.specs.Bits.{Bytes}

-- The bytes s with f written from i on, and nothing else changed.
unfoldable pub written : ℕ → Bytes → Bytes → Bytes
written i f s = take i s ++ (f ++ drop (i + length f) s)
