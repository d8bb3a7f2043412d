-- What the root read and the key read answer by a table of any length, within the code: one without entries is the
-- scan. No public promise reaches this file. Assumes nothing.
use Rattle.std.specs.Prelude.{ℕ, cond, List, length, eqb}
use Rattle.terms.specs.declared.Form.TheVariants.{Counted as counted}
use Rattle.terms.specs.Bits.{Bytes}
use Rattle.meaning.specs.Calls.{Answer, refused}
use Rattle.meaning.specs.Reading.{Verdict, read_root_by, read_key_by}
use Rattle.indexed.specs.Index.{by_table}
use Rattle.nodehash.specs.Node.{leaf_hash, inner_hash}
use Rattle.layout.specs.Headers.{header_of}
use Rattle.layout.specs.Stores.{store_of}
use Rattle.promises.specs.Headed.{by_header}

unfoldable pub root_answer_by : Bytes → List ℕ → ℕ → Answer Bytes
root_answer_by s table v =
    by_header (header_of counted s) (read_root_by leaf_hash inner_hash (by_table table (store_of s)) (store_of s) v)

unfoldable pub key_answer_by : Bytes → List ℕ → ℕ → Bytes → Answer Verdict
key_answer_by s table v k =
    cond (eqb (length k) 32)
    (by_header (header_of counted s) (read_key_by (by_table table (store_of s)) (store_of s) v k))
    (refused 12)
