-- The number of grants of a version as the code answers it: each case of its answer, and the read by a table of any
-- length. Within the code; the contract is in `contracts`. Assumes nothing.
use Rattle.std.specs.Prelude.{ℕ, List, Result}
use Rattle.terms.specs.declared.Form.TheVariants.{Counted as counted}
use Rattle.terms.specs.Bits.{Bytes}
use Rattle.meaning.specs.Calls.{Answer}
use Rattle.meaning.specs.Counting.{read_number_by}
use Rattle.indexed.specs.Index.{by_table}
use Rattle.layout.specs.Headers.{header_of}
use Rattle.layout.specs.Stores.{store_of}
use Rattle.promises.specs.Headed.{by_header}
use Rattle.refusal_numbers.specs.Refusals.{read_answer_of}
use Rattle.refusal_numbers.specs.declared.ReadRefusal.{ReadRefusal}

-- What each case of the answer says.
unfoldable pub number_says : Result ℕ ReadRefusal → Answer ℕ
number_says = read_answer_of (λ n. n)

-- The read by a table of any length; one without entries is the scan. No public promise reaches it.
unfoldable pub number_answer_by : Bytes → List ℕ → ℕ → Answer ℕ
number_answer_by s table v =
    by_header (header_of counted s) (read_number_by (by_table table (store_of s)) (store_of s) v)
