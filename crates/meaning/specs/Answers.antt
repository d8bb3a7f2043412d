-- What an answer is for a caller in another language: a number, and an array with what the call gives. Assumes nothing.
use Rattle.std.specs.Prelude.{ℕ, ◌≡◌, ◌∷◌, ◌++◌, length, drop}
use Rattle.terms.specs.Bits.{Bytes}
use Rattle.terms.specs.Records.{zeros}
use Rattle.meaning.specs.Calls.{Answer, refused, accepted}
use Rattle.meaning.specs.Reading.{Verdict, present, absent}

-- 0 where the call is accepted, else the number of refusal.
abbrev pub number_of : {A : Type 0} → Answer A → ℕ
number_of (refused n) = n
number_of (accepted a) = 0

-- What is left of the array for it: a refused call writes nothing.
abbrev pub told_of : {A : Type 0} → (A → Bytes) → Answer A → Bytes → Bytes
told_of tell (refused n) old = old
told_of tell (accepted a) old = tell a

-- What is left of the room for what it gives: that fills its front, the rest stays; a refused call writes nothing.
abbrev pub room_after : {A : Type 0} → (A → Bytes) → Answer A → Bytes → Bytes
room_after bytes (refused n) room = room
room_after bytes (accepted a) room = bytes a ++ drop (length (bytes a)) room

-- An answer for such a caller: its number is r, and the array f for what is told of it is left as g.
pub record Exported {A : Type 0} (a : Answer A) (tell : A → Bytes) (f : Bytes) (r : ℕ) (g : Bytes) : Type 0 where
  pub number : r ≡ number_of a
  pub told : g ≡ told_of tell a f

-- The same, where what is said of the answer is a relation.
pub data Exports {A : Type 0} (Said : Answer A → Type 0) (tell : A → Bytes) (f : Bytes) : ℕ → Bytes → Type 0 where
  exports_refusal : {n : ℕ} → Said (refused n) → Exports Said tell f n f
  exports_answer : {a : A} → Said (accepted a) → Exports Said tell f 0 (tell a)

-- What a key read finds: 1 and the value, or 0 and 32 zero bytes.
abbrev pub found_bytes : Verdict → Bytes
found_bytes (present x) = 1 ∷ x
found_bytes absent = 0 ∷ zeros
