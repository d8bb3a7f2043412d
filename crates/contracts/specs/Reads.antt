-- Document 01, 'Reading and proving', with 2026-07: the root read and the key read, over any bytes. Assumes nothing.
use Rattle.std.specs.Prelude.{ℕ, cond, List, length, eqb}
use Rattle.std.proofs.Math.Option.{Option, none}
use Rattle.terms.specs.Bits.{Bytes}
use Rattle.meaning.specs.Calls.{Answer, refused}
use Rattle.meaning.specs.Reading.{Verdict, read_root_by, read_key_by}
use Rattle.meaning.specs.Answers.{found_bytes, Exported}
use Rattle.nodehash.specs.Node.{leaf_hash, inner_hash}
use Rattle.layout.specs.Stores.{store_of}
use Rattle.promises.specs.Headed.{by_header}
use Rattle.contracts.specs.Looking.{header_for, looking_in}

-- A root read answers the hash of the root record alone, or zeros: 1, 2, 8, and 3 where the root is spoilt.
unfoldable pub root_answer : Bytes → Option (List ℕ) → ℕ → Answer Bytes
root_answer s by v = by_header (header_for s by) (read_root_by leaf_hash inner_hash (looking_in s by) (store_of s) v)

-- A key read answers the value or "absent": 12 where the key isn't 32 bytes, then 1, 2, 8, 3 or 17.
unfoldable pub key_answer : Bytes → Option (List ℕ) → ℕ → Bytes → Answer Verdict
key_answer s by v k =
    cond (eqb (length k) 32) (by_header (header_for s by) (read_key_by (looking_in s by) (store_of s) v k)) (refused 12)

-- Reading the root of version v of the bytes s, by scans or by a table, answers r; the array f for it is left as g.
pub record ReadsRootBy (s : Bytes) (by : Option (List ℕ)) (v : ℕ) (f : Bytes) (r : ℕ) (g : Bytes) : Type 0 where
  pub exported : Exported (root_answer s by v) (λ root. root) f r g

abbrev pub ReadsRoot : Bytes → ℕ → Bytes → ℕ → Bytes → Type 0
ReadsRoot s v f r g = ReadsRootBy s none v f r g

-- Reading the key k in version v of the bytes s answers r; the array f for what is found is left as g.
pub record ReadsKeyBy (s : Bytes) (by : Option (List ℕ)) (v : ℕ) (k f : Bytes) (r : ℕ) (g : Bytes) : Type 0 where
  pub exported : Exported (key_answer s by v k) found_bytes f r g

abbrev pub ReadsKey : Bytes → ℕ → Bytes → Bytes → ℕ → Bytes → Type 0
ReadsKey s v k f r g = ReadsKeyBy s none v k f r g
