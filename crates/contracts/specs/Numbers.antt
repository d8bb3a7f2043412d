-- 2026-09, over any bytes: the number of grants of a version, and the grant at a position of it. Assumes nothing.
use Rattle.std.specs.Prelude.{ℕ, List, ◌++◌}
use Rattle.std.proofs.Math.Option.{Option, none}
use Rattle.terms.specs.Bits.{Bytes}
use Rattle.terms.specs.Records.{Grant}
use Rattle.terms.specs.Fields.{le}
use Rattle.meaning.specs.Calls.{Answer}
use Rattle.meaning.specs.Counting.{read_number_by, read_position_by}
use Rattle.meaning.specs.Answers.{Exported}
use Rattle.layout.specs.Stores.{store_of}
use Rattle.promises.specs.Headed.{by_header}
use Rattle.contracts.specs.Looking.{header_for, looking_in}

-- The number of grants: 1, 2, 8, and 3 where the root is spoilt.
unfoldable pub number_answer : Bytes → Option (List ℕ) → ℕ → Answer ℕ
number_answer s by v = by_header (header_for s by) (read_number_by (looking_in s by) (store_of s) v)

-- The grant at a position: 1, 2, 8, 3 where the root is spoilt, 20; then 3 or 17 on the way.
unfoldable pub position_answer : Bytes → Option (List ℕ) → ℕ → ℕ → Answer Grant
position_answer s by v i = by_header (header_for s by) (read_position_by (looking_in s by) (store_of s) v i)

-- A grant's 64 bytes: the key, then the value.
abbrev pub grant_bytes : Grant → Bytes
grant_bytes x = x.key ++ x.value

-- Reading the number of grants of version v of the bytes s answers r; the array f for the number is left as g.
pub record CountsBy (s : Bytes) (by : Option (List ℕ)) (v : ℕ) (f : Bytes) (r : ℕ) (g : Bytes) : Type 0 where
  pub exported : Exported (number_answer s by v) (le 8) f r g

abbrev pub Counts : Bytes → ℕ → Bytes → ℕ → Bytes → Type 0
Counts s v f r g = CountsBy s none v f r g

-- Reading the grant at position i of version v of the bytes s answers r; the array f for the grant is left as g.
pub record ReadsAtBy (s : Bytes) (by : Option (List ℕ)) (v i : ℕ) (f : Bytes) (r : ℕ) (g : Bytes) : Type 0 where
  pub exported : Exported (position_answer s by v i) grant_bytes f r g

abbrev pub ReadsAt : Bytes → ℕ → ℕ → Bytes → ℕ → Bytes → Type 0
ReadsAt s v i f r g = ReadsAtBy s none v i f r g
