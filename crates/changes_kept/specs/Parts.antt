-- What comparing two versions of the store that bytes hold answers for any bytes, within the code: 1, 2; then 3 by full
-- soundness; then 8, 13, 9. No public promise reaches this file. Assumes nothing.
use Rattle.std.specs.Prelude.{ℕ, ◌≡◌, List, length, Result}
use Rattle.terms.specs.Bits.{Bytes}
use Rattle.meaning.specs.Calls.{Answer}
use Rattle.meaning.specs.Sized.{sized}
use Rattle.promises.specs.Calls.{Does}
use Rattle.changed.specs.Changes.{Item, list_bytes}
use Rattle.changed.specs.Compare.{compare}
use Rattle.meaning.specs.Answers.{room_after}
use Rattle.refusal_numbers.specs.Refusals.{answer_of}
use Rattle.refusal_numbers.specs.declared.Refusal.{Refusal}

-- What each case of the answer says: a number of refusal, or how many records the list has.
abbrev pub compared_says : Result ℕ Refusal → Answer ℕ
compared_says = answer_of (λ n. n)

-- The number of records.
abbrev pub count_of : Answer (List Item) → Answer ℕ
count_of a = sized length a

-- Comparing gives this answer and leaves the room so; the store is as it was.
pub record Compares (first second limit : ℕ) (s room : Bytes) (r : Answer ℕ) (left : Bytes) : Type 0 where
  pub answer : Answer (List Item)
  pub does : Does (compare first second limit (length room)) s answer s
  pub says : r ≡ count_of answer
  pub bytes : left ≡ room_after list_bytes answer room
