-- The records of a batch one by one, as the code reads them. No public promise reaches this file. Assumes nothing.
use Rattle.std.specs.Prelude.{ℕ, ◌*◌, Bool, true, false}
use Rattle.terms.specs.Bits.{Bytes}
use Rattle.terms.specs.Fields.{slice}
use Rattle.terms.specs.Records.{Ask, insert, delete, zeros}
use Rattle.batch.specs.Sizes.{record_size}
use Rattle.batch.specs.Batch.{ask}

-- An ask is an insert, or else a delete.
abbrev pub inserts : Ask → Bool
inserts (insert k x) = true
inserts (delete k) = false

-- Its value, zero for delete.
abbrev pub ask_value : Ask → Bytes
ask_value (insert k x) = x
ask_value (delete k) = zeros

-- Record i of a batch, and what it asks for.
unfoldable pub record_at : ℕ → Bytes → Bytes
record_at i b = slice (record_size * i) record_size b

unfoldable pub ask_at : ℕ → Bytes → Ask
ask_at i b = ask (record_at i b)
