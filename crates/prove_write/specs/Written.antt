-- The bytes of a planned proof and how many they are; none where it is refused. Assumes nothing.
use Rattle.std.specs.Prelude.{ℕ, []}
use Rattle.terms.specs.Bits.{Bytes}
use Rattle.terms.specs.Records.{Proof}
use Rattle.meaning.specs.Calls.{Answer, refused, accepted}
use Rattle.meaning.specs.Proving.{proof_length}
use Rattle.proofrecords.specs.ProofBytes.{proof_bytes}

abbrev pub planned_length : Answer Proof → ℕ
planned_length (refused n) = 0
planned_length (accepted p) = proof_length p

abbrev pub planned_bytes : Answer Proof → Bytes
planned_bytes (refused n) = []
planned_bytes (accepted p) = proof_bytes p
