-- The grant at a position of a version as the code answers it. Within the code; the contract is in `contracts`. Assumes
-- nothing.
use Rattle.std.specs.Prelude.{ℕ, List}
use Rattle.terms.specs.declared.Form.TheVariants.{Counted as counted}
use Rattle.terms.specs.Bits.{Bytes}
use Rattle.terms.specs.Records.{Grant}
use Rattle.meaning.specs.Calls.{Answer}
use Rattle.meaning.specs.Counting.{read_position_by}
use Rattle.indexed.specs.Index.{by_table}
use Rattle.layout.specs.Headers.{header_of}
use Rattle.layout.specs.Stores.{store_of}
use Rattle.promises.specs.Headed.{by_header}

-- The read by a table of any length; one without entries is the scan. No public promise reaches it.
unfoldable pub position_answer_by : Bytes → List ℕ → ℕ → ℕ → Answer Grant
position_answer_by s table v i =
    by_header (header_of counted s) (read_position_by (by_table table (store_of s)) (store_of s) v i)
