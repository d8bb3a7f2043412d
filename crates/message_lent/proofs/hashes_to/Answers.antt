-- `message_lent::hashes_to` meets its contract: the length, then the hash. Assumes nothing.
use mathlib.Core.Path.{ap₂, ◌∙◌}
use Rattle.terms.specs.Bits.{same_bytes}
use Rattle.terms.specs.Fields.{slice}
use Rattle.message_lent.proofs.Lengths.{no_raw_bytes, too_many_raw, raw_hashes}
use native.Mathlib.Omega.{arith}
use Rattle.message_lent.proofs.hashes_to.Goals as goal

pub returns-then-x-eq0 : goal.returns-then-x-eq0
returns-then-x-eq0 c = let a = c.args in no_raw_bytes a.most a.x.now (slice a.at 32 a.proof.now) c.if-x-eq0.true

pub returns-then-most-x : goal.returns-then-most-x
returns-then-most-x c = let a = c.args in too_many_raw a.most a.x.now (slice a.at 32 a.proof.now) (omega arith)

pub returns : goal.returns
unfolding slice
returns c =
    let a = c.args in
    c.same_hash.ensures ∙ ap₂ same_bytes c.digest.ensures c.hash_at.ensures.result_value ∙ raw_hashes a.most a.x.now (slice a.at 32 a.proof.now) c.if-x-eq0.false (omega arith)
