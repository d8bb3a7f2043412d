-- Documents 01, 'Numbers of refusal', and 02, 2026-13: what applying a batch to bytes as a number answers, and the
-- bytes it leaves. Order: 1, 2; then 3; then 4, 5, 18, 7. Assumes nothing.
use Rattle.std.specs.Prelude.{ℕ}
use Rattle.terms.specs.Bits.{Bytes}
use Rattle.meaning.specs.Calls.{Answer, Applied, apply}
use Rattle.nodehash.specs.Node.{leaf_hash, inner_hash}
use Rattle.batch.specs.Batch.{batch_of}
use Rattle.promises.specs.Calls.{Does}

-- Applying the bytes of a batch to the bytes s as a number gives this answer and leaves these bytes.
abbrev pub ApplyDoes : ℕ → Bytes → Bytes → Answer Applied → Bytes → Type 0
ApplyDoes number batch s answer t = Does (apply leaf_hash inner_hash number (batch_of batch)) s answer t
