-- What is proved by a table of any length, within the code. No public promise reaches this file. Assumes nothing.
use Rattle.std.specs.Prelude.{ℕ, List, length}
use Rattle.terms.specs.Bits.{Bytes}
use Rattle.terms.specs.Records.{Proof}
use Rattle.meaning.specs.Calls.{Answer}
use Rattle.prove.specs.Parts.{prove_answer_by}

abbrev pub proved_by : Bytes → List ℕ → ℕ → Bytes → Bytes → Answer Proof
proved_by s table v k room = prove_answer_by s table v k (length room)
