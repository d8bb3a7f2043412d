-- What the helpers of a palette promise each other: what is planned for its keys together, how long that is, what is
-- given. No public promise reaches this file. Assumes nothing.
use Rattle.std.specs.Prelude.{ℕ, ◌≡◌, List, [], Result}
use Rattle.terms.specs.Bits.{Bytes}
use Rattle.terms.specs.Records.{Proof}
use Rattle.meaning.specs.Calls.{Answer, refused, accepted}
use Rattle.meaning.specs.Sized.{sized}
use Rattle.meaning.specs.Reading.{seen}
use Rattle.meaning.specs.Proving.{prove_seen}
use Rattle.meaning.specs.Answers.{room_after}
use Rattle.indexed.specs.Index.{by_table}
use Rattle.layout.specs.Stores.{store_of}
use Rattle.palette_rules.specs.Palette.{keys_in, in_turn, length_together}
use Rattle.prove.specs.Parts.{proved_says}
use Rattle.refusal_numbers.specs.declared.ReadRefusal.{ReadRefusal}
use Rattle.contracts.specs.Palettes.{proofs_bytes}

-- What is planned for a key in a kept version, and for each key of a list.
abbrev pub planned_for : Bytes → List ℕ → ℕ → Bytes → Answer Proof
planned_for s table v k = prove_seen k (seen (by_table table (store_of s)) v)

unfoldable pub planned_in : Bytes → List ℕ → ℕ → Bytes → Answer (List Proof)
planned_in s table v list = in_turn (planned_for s table v) (keys_in list)

-- The length of all together.
abbrev pub together_length : Answer (List Proof) → Answer ℕ
together_length a = sized length_together a

-- The bytes of all together, none where one is refused.
abbrev pub together_bytes : Answer (List Proof) → Bytes
together_bytes (refused n) = []
together_bytes (accepted ps) = proofs_bytes ps

-- The answer and the room afterwards are those of the answer a.
pub record Gives (a : Answer (List Proof)) (room after : Bytes) (r : Result ℕ ReadRefusal) : Type 0 where
  pub answer : proved_says r ≡ together_length a
  pub bytes : after ≡ room_after proofs_bytes a room
