-- What is proved of a list of keys by a table of any length, within the code. No public promise reaches this file.
-- Assumes nothing.
use Rattle.std.specs.Prelude.{ℕ, List, length}
use Rattle.terms.specs.Bits.{Bytes}
use Rattle.terms.specs.Records.{Proof}
use Rattle.meaning.specs.Calls.{Answer}
use Rattle.palette.specs.Answer.{palette_answer_by}

abbrev pub paletted_by : Bytes → List ℕ → ℕ → Bytes → Bytes → Answer (List Proof)
paletted_by s table v list room = palette_answer_by s table v list (length room)
