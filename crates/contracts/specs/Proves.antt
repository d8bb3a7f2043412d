-- Document 01, 'Reading and proving', with 2026-03 and 2026-07: proving a key, over any bytes. Assumes nothing.
use Rattle.std.specs.Prelude.{ℕ, ◌≡◌, cond, List, length, eqb}
use Rattle.std.proofs.Math.Option.{Option, none}
use Rattle.terms.specs.Bits.{Bytes}
use Rattle.terms.specs.Records.{Proof}
use Rattle.terms.specs.Fields.{le}
use Rattle.meaning.specs.Calls.{Answer, refused}
use Rattle.meaning.specs.Proving.{prove_by, proof_length}
use Rattle.meaning.specs.Answers.{room_after, Exported}
use Rattle.layout.specs.Stores.{store_of}
use Rattle.proofrecords.specs.ProofBytes.{proof_bytes}
use Rattle.promises.specs.Headed.{by_header}
use Rattle.contracts.specs.Looking.{header_for, looking_in}

-- The proof for the key k, into this much room: 12 where the key isn't 32 bytes, then 1, 2, 8, 14, 3 or 17, 9.
unfoldable pub prove_answer : Bytes → Option (List ℕ) → ℕ → Bytes → ℕ → Answer Proof
prove_answer s by v k room =
    cond (eqb (length k) 32) (by_header (header_for s by) (prove_by (looking_in s by) (store_of s) v k room))
    (refused 12)

-- Proving the key k in version v of the bytes s answers r; the room is left as t, the array f for the length as g.
pub record ProvesBy (s : Bytes) (by : Option (List ℕ)) (v : ℕ) (k room f : Bytes) (r : ℕ) (t g : Bytes) : Type 0 where
  pub exported : Exported (prove_answer s by v k (length room)) (λ p. le 4 (proof_length p)) f r g
  pub proof : t ≡ room_after proof_bytes (prove_answer s by v k (length room)) room

abbrev pub Proves : Bytes → ℕ → Bytes → Bytes → Bytes → ℕ → Bytes → Bytes → Type 0
Proves s v k room f r t g = ProvesBy s none v k room f r t g
