-- Pruning answers a number, and tells how many records were freed. Assumes nothing.
use Rattle.std.specs.Prelude.{ℕ}
use Rattle.terms.specs.Bits.{Bytes}
use Rattle.terms.specs.Fields.{le}
use Rattle.meaning.specs.Calls.{prune}
use Rattle.meaning.specs.Answers.{Exports}
use Rattle.promises.specs.Calls.{Does}

-- Pruning the bytes s to n answers r and leaves s as t, and the array f for the count, in four bytes, as g.
abbrev pub PruneExports : ℕ → Bytes → Bytes → ℕ → Bytes → Bytes → Type 0
PruneExports n s f r t g = Exports (λ a. Does (prune n) s a t) (le 4) f r g
