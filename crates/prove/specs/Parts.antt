-- What the helpers of proving promise each other, and what each case of an answer of the code says. No public promise
-- reaches this file. Assumes nothing.
use Rattle.std.specs.Prelude.{ℕ, ◌≡◌, cond, List, length, eqb, Result}
use Rattle.terms.specs.declared.Form.TheVariants.{Counted as counted}
use Rattle.terms.specs.Bits.{Bytes}
use Rattle.terms.specs.Records.{Proof}
use Rattle.meaning.specs.Calls.{Answer, refused, accepted}
use Rattle.meaning.specs.Sized.{sized}
use Rattle.meaning.specs.Proving.{proof_length, fitted, prove_by}
use Rattle.indexed.specs.Index.{by_table}
use Rattle.layout.specs.Headers.{header_of}
use Rattle.layout.specs.Stores.{store_of}
use Rattle.promises.specs.Headed.{by_header}
use Rattle.meaning.specs.Answers.{room_after}
use Rattle.proofrecords.specs.ProofBytes.{proof_bytes}
use Rattle.refusal_numbers.specs.Refusals.{read_answer_of}
use Rattle.refusal_numbers.specs.declared.ReadRefusal.{ReadRefusal}

-- What is proved by a table of any length; one without entries is the scan.
unfoldable pub prove_answer_by : Bytes → List ℕ → ℕ → Bytes → ℕ → Answer Proof
prove_answer_by s table v k room =
    cond (eqb (length k) 32)
    (by_header (header_of counted s) (prove_by (by_table table (store_of s)) (store_of s) v k room))
    (refused 12)

-- Proving answers the proof's length.
abbrev pub length_answer : Answer Proof → Answer ℕ
length_answer a = sized proof_length a

-- What each case of the answer says.
unfoldable pub proved_says : Result ℕ ReadRefusal → Answer ℕ
proved_says = read_answer_of (λ n. n)

-- The answer and the room afterwards are those of the answer a.
pub record Gives (a : Answer Proof) (room after : Bytes) (r : Result ℕ ReadRefusal) : Type 0 where
  pub answer : proved_says r ≡ length_answer a
  pub bytes : after ≡ room_after proof_bytes a room

-- The same where the proof is still to be fitted into the room: 9 if it is longer.
abbrev pub Offers : Answer Proof → Bytes → Bytes → Result ℕ ReadRefusal → Type 0
Offers a room after r = Gives (fitted (length room) a) room after r
