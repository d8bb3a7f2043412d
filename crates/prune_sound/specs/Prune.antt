-- Document 01, 'Pruning' and 'Numbers of refusal': what pruning bytes to a version answers, and the bytes it leaves.
-- Order: 1, 2; then 3, 8. Assumes nothing.
use Rattle.std.specs.Prelude.{ℕ, Result}
use Rattle.terms.specs.Bits.{Bytes}
use Rattle.meaning.specs.Calls.{Answer, prune}
use Rattle.promises.specs.Calls.{Does}
use Rattle.refusal_numbers.specs.Refusals.{answer_of}
use Rattle.refusal_numbers.specs.declared.Refusal.{Refusal}

-- What each case of the answer says: a number of refusal, or how many records were freed.
unfoldable pub pruned_says : Result ℕ Refusal → Answer ℕ
pruned_says = answer_of (λ freed. freed)

-- Pruning the bytes s to n gives this answer and leaves these bytes.
abbrev pub PruneDoes : ℕ → Bytes → Answer ℕ → Bytes → Type 0
PruneDoes n s answer t = Does (prune n) s answer t
