-- `apply_c::grants_apply` meets its contract: the answer is sent as it is. Assumes nothing.
use Rattle.apply_c.proofs.Exporting.{export_sent}
use native.Mathlib.Omega.{arith}
use Rattle.terms.specs.Bits.{Byte, All}
use Rattle.terms.proofs.Lists.{all_of}
use Rattle.apply_answer.specs.Answers.{applied_says}
use Rattle.apply_c.proofs.grants_apply.Goals as goal

pub returns : goal.returns
returns c =
    let batch-bytes : All Byte c.args.batch.now = all_of Byte c.args.batch.now 0 (λ i _. omega (arith, c.shared_slice_known-1.given i)) in
    let a = c.args in
    export_sent a.number a.batch.now batch-bytes (applied_says c.apply-applied.result) c.apply-applied.ensures c.send.ensures
