-- How a proof's answer is told at the boundary, by a table or without: the number, the room and the array. Within the
-- code; the contracts are in `contracts`. Assumes nothing.
use Rattle.std.specs.Prelude.{ℕ, ◌≡◌}
use Rattle.terms.specs.Bits.{Bytes}
use Rattle.terms.specs.Records.{Proof}
use Rattle.terms.specs.Fields.{le}
use Rattle.meaning.specs.Calls.{Answer}
use Rattle.meaning.specs.Proving.{proof_length}
use Rattle.meaning.specs.Answers.{room_after, Exported}
use Rattle.proofrecords.specs.ProofBytes.{proof_bytes}

-- A proof's answer is told: r is the number of refusal or 0;
-- the room is left as t, the array f for the proof's length as g.
pub record ProofTold (a : Answer Proof) (room f : Bytes) (r : ℕ) (t g : Bytes) : Type 0 where
  pub exported : Exported a (λ p. le 4 (proof_length p)) f r g
  pub proof : t ≡ room_after proof_bytes a room
