-- What the search for both neighbours promises. No public promise reaches this file. Assumes nothing.
use Rattle.std.specs.Prelude.{ℕ, List}
use Rattle.terms.specs.Bits.{Bytes, left, right}
use Rattle.terms.specs.Records.{Proof}
use Rattle.meaning.specs.Calls.{Answer}
use Rattle.meaning.specs.Proving.{absence_from}
use Rattle.prove_trails.specs.Searches.{neighbour_says}
use Rattle.prove_trails.specs.declared.Walked as declared-walked

-- Absence where a walk has ended, by the neighbours on both sides.
abbrev pub absent_from : Bytes → List ℕ → Bytes → declared-walked.Walked → Answer Proof
absent_from s table k w = absence_from k (neighbour_says s table k w left) (neighbour_says s table k w right)
