-- `verify_call::grants_verify` meets its contract: each case of the answer is written out.
-- Assumes nothing.
use native.Mathlib.Omega.{arith}
use mathlib.Core.Path.{ap, sym, ◌∙◌}
use Rattle.terms.specs.Bits.{Byte, All}
use Rattle.terms.proofs.Lists.{all_of}
use Rattle.std.specs.Prelude.{Ok}
use Rattle.verify.specs.Says.{says}
use Rattle.meaning.proofs.Told.{exported_refusal, exported_answer}
use Rattle.verify_rules.proofs.Told.{verifies}
use Rattle.verify_call.proofs.Boundary.{zeros_found}
use borrow.Author.Rules.{rules}
use Rattle.verify_call.proofs.grants_verify.Goals as goal

pub returns-in-Err : goal.returns-in-Err
returns-in-Err c =
    let given-bytes : All Byte c.args.proof.now = all_of Byte c.args.proof.now 0 (λ i _. omega (arith, c.shared_slice_known-3-1.given i)) in
    let e = ap says (sym c.in-Err.is) ∙ c.verify-answer.ensures in
    rw c.number.ensures (verifies given-bytes (exported_refusal e))

pub returns-in-Ok-Some : goal.returns-in-Ok-Some
returns-in-Ok-Some c =
    let given-bytes : All Byte c.args.proof.now = all_of Byte c.args.proof.now 0 (λ i _. omega (arith, c.shared_slice_known-3-1.given i)) in
    let e = ap says (sym (c.in-Ok-Some.is ∙ ap Ok (rw c.in-Ok-Some.is at c.in-Ok-Some.field-0-is))) ∙ c.verify-answer.ensures in
    verifies given-bytes (exported_answer e c.put_present.ensures)

pub returns-in-Ok-None : goal.returns-in-Ok-None
returns-in-Ok-None c =
    let given-bytes : All Byte c.args.proof.now = all_of Byte c.args.proof.now 0 (λ i _. omega (arith, c.shared_slice_known-3-1.given i)) in
    let e = ap says (sym (c.in-Ok-None.is ∙ ap Ok (rw c.in-Ok-None.is at c.in-Ok-None.field-0-is))) ∙ c.verify-answer.ensures in
    let f = c.args.found.now in
    verifies given-bytes (exported_answer e (c.clear.ensures ∙ zeros_found f (search rules)))
