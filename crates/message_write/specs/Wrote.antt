-- What the code answers when it writes a message, beside `messages/Lending`. No public promise reaches this file.
-- Assumes nothing.
use Rattle.std.specs.Prelude.{ℕ, ◌≤◌, ◌≡◌, length, Result}
use Rattle.std.proofs.Math.Option.{Option}
use Rattle.terms.specs.Bits.{Bytes}
use Rattle.terms.specs.Records.{Presence, Proof, absence}
use Rattle.meaning.specs.Calls.{Answer}
use Rattle.meaning.specs.Answers.{room_after}
use Rattle.meaning.specs.Sized.{sized}
use Rattle.sha256.specs.Sha256.{sha256}
use Rattle.messages.specs.Message.{message_bytes}
use Rattle.messages.specs.Lending.{Leaf, Lent, raw_neighbour, fitted}
use Rattle.message_lent.specs.Lent.{InForm}
use Rattle.message_put.specs.Inner.{Lendable}
use Rattle.refusal_numbers.specs.Refusals.{answer_of}
use Rattle.refusal_numbers.specs.declared.Refusal.{Refusal}

abbrev pub lent : Bytes → Leaf → Leaf → Lent
lent asked first second = record { asked = asked; first = first; second = second }

-- The message of a proof, if it fits the room.
abbrev pub fitted_in : Proof → Bytes → Answer Bytes
fitted_in q room = fitted sha256 (length room) (message_bytes q) (message_bytes q)

-- An absence with raw neighbours.
abbrev pub besides : Bytes → Leaf → Option Presence → Leaf → Option Presence → Proof
besides asked left l right r =
    absence (record { key = asked; leftward = raw_neighbour left l; rightward = raw_neighbour right r })

abbrev pub AskedRaw : Bytes → Type 0
AskedRaw asked = (1 ≤ length asked) × (length asked ≤ 256)

-- A neighbour's record in form with a leaf of right lengths, or no bytes.
abbrev pub LendableOr : Bytes → Bytes → Bytes → Type 0
LendableOr p key value = InForm p × ((length p ≡ 0 → ⊥) → Lendable key value)

-- What is answered: the message's length.
abbrev pub says : Result ℕ Refusal → Answer ℕ
says = answer_of (λ n. n)

abbrev pub length_of : Answer Bytes → Answer ℕ
length_of a = sized length a

pub record Writes (a : Answer Bytes) (room : Bytes) (r : Result ℕ Refusal) (t : Bytes) : Type 0 where
  pub answer : says r ≡ length_of a
  pub bytes : t ≡ room_after (λ m. m) a room
