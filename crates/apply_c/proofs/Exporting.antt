-- What the call for C leaves, by what is sent of the answer. Assumes nothing.
use Prim.Native.Nat.{ℕ}
use mathlib.Core.Path.{sym, subst₂}
use Rattle.terms.specs.Bits.{Bytes, Byte, All}
use Rattle.meaning.specs.Calls.{Answer, refused, accepted, Applied, apply}
use Rattle.nodehash.specs.Node.{leaf_hash, inner_hash}
use Rattle.batch.specs.Batch.{batch_of}
use Rattle.batch.proofs.Batches.{asks_read}
use Rattle.meaning.specs.Answers.{Exports, exports_refusal, exports_answer}
use Rattle.promises.specs.Calls.{Does}
use Rattle.apply_publish.specs.Apply.{ApplyDoes}
use Rattle.apply_put.specs.Sent.{Sent}
use Rattle.contracts.specs.Apply.{told, ApplyExports}

-- a batch asks for what it is read as
exported : (number : ℕ) (batch : Bytes) → All Byte batch → {s f t g : Bytes} {r : ℕ} →
    Exports (λ a. Does (apply leaf_hash inner_hash number (batch_of batch)) s a t) told f r g → ApplyExports number batch s f r t g
exported number batch bytes w = record { asked = batch_of batch; asks = asks_read batch bytes; applied = w }

pub export_sent : (number : ℕ) (batch : Bytes) → All Byte batch → {s f t g : Bytes} {r : ℕ} (a : Answer Applied) → ApplyDoes number batch s a t → Sent a f r g →
    ApplyExports number batch s f r t g
export_sent number batch bytes {s} {f} {t} (refused m) o (e, k) = subst₂ (λ n h. ApplyExports number batch s f n t h) (sym e) (sym k) (exported number batch bytes (exports_refusal o))
export_sent number batch bytes {s} {f} {t} (accepted a) o (e, k) = subst₂ (λ n h. ApplyExports number batch s f n t h) (sym e) (sym k) (exported number batch bytes (exports_answer o))
