-- What a palette answers by a table of any length. No public promise reaches this file. Assumes nothing.
use Rattle.std.specs.Prelude.{ℕ, cond, List}
use Rattle.terms.specs.declared.Form.TheVariants.{Counted as counted}
use Rattle.terms.specs.Bits.{Bytes}
use Rattle.terms.specs.Records.{Proof}
use Rattle.meaning.specs.Calls.{Answer, refused}
use Rattle.meaning.specs.Proving.{proof_by}
use Rattle.indexed.specs.Index.{by_table}
use Rattle.layout.specs.Headers.{header_of}
use Rattle.layout.specs.Stores.{store_of}
use Rattle.promises.specs.Headed.{by_header}
use Rattle.palette_rules.specs.Palette.{whole_keys, keys_in, palette_of}

-- What the call answers by a table of any length; one without entries is the scan.
unfoldable pub palette_answer_by : Bytes → List ℕ → ℕ → Bytes → ℕ → Answer (List Proof)
palette_answer_by s table v list room =
    cond (whole_keys list)
    (by_header (header_of counted s) (palette_of (proof_by (by_table table (store_of s)) (store_of s) v) (store_of s) v
    (keys_in list) room))
    (refused 12)
