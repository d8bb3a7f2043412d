-- Document 02, request 2026-14: the pocket prover, over any bytes. Assumes nothing.
use Rattle.std.specs.Prelude.{ℕ, ◌≡◌, cond, length, eqb}
use Rattle.terms.specs.declared.Form.TheVariants.{Counted as counted}
use Rattle.terms.specs.Bits.{Bytes}
use Rattle.terms.specs.Records.{Proof}
use Rattle.terms.specs.Fields.{le}
use Rattle.meaning.specs.Calls.{Answer, refused}
use Rattle.meaning.specs.Answers.{room_after, Exported}
use Rattle.meaning.specs.Proving.{proof_length}
use Rattle.pocket.specs.Pocket.{pocket_prove}
use Rattle.layout.specs.Headers.{header_of}
use Rattle.layout.specs.Stores.{store_of}
use Rattle.promises.specs.Headed.{by_header}
use Rattle.proofrecords.specs.ProofBytes.{proof_bytes}

-- The proof for the key k, into this much room: 12 where the key isn't 32 bytes, then 1, 2, 8, 14, 3 or 17, 19, 9.
unfoldable pub pocket_answer : Bytes → ℕ → Bytes → ℕ → Answer Proof
pocket_answer s v k room =
    cond (eqb (length k) 32) (by_header (header_of counted s) (pocket_prove (store_of s) v k room)) (refused 12)

-- Proving the key k in the profile answers r; the room is left as t, the array f for the proof's length as g.
pub record PocketProves (s : Bytes) (v : ℕ) (k room f : Bytes) (r : ℕ) (t g : Bytes) : Type 0 where
  pub exported : Exported (pocket_answer s v k (length room)) (λ p. le 4 (proof_length p)) f r g
  pub proof : t ≡ room_after proof_bytes (pocket_answer s v k (length room)) room
