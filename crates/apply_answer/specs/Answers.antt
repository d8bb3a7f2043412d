-- Documents 01, 'Numbers of refusal', and 02, 2026-13: what the answers of the code say. Assumes nothing.
use Rattle.std.specs.Prelude.{ℕ, cond, ltb, Result}
use Rattle.meaning.specs.Calls.{Answer, Applied}
use Rattle.hash.specs.Hash.{hash_bytes}
use Rattle.refusal_numbers.specs.Refusals.{answer_of}
use Rattle.refusal_numbers.specs.declared.Refusal.{Refusal}
use Rattle.apply_answer.specs.declared.Applied as declared

-- What each case of the answer says: a number of refusal, or version, root and count of new records.
unfoldable pub applied_says : Result declared.Applied Refusal → Answer Applied
applied_says = answer_of (λ a. record { version = a.version; root = hash_bytes a.root; count = a.count })

-- A number that isn't above latest is refused with 18; 0 where it is above.
abbrev pub number_refusal : ℕ → ℕ → ℕ
number_refusal number latest = cond (ltb latest number) 0 18

-- Fewer free slots than new records are refused with 7; 0 where there are enough.
abbrev pub room_refusal : ℕ → ℕ → ℕ
room_refusal free records = cond (ltb free records) 7 0
