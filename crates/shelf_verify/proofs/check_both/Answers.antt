-- `shelf_verify::check_both` meets its contract: by what the list says. Assumes nothing.
use native.Mathlib.Omega.{arith}
use mathlib.Core.Path.{ap, sym, ◌∙◌}
use Rattle.terms.specs.Bits.{Byte, All}
use Rattle.terms.proofs.Lists.{all_of}
use Rattle.proofrecords.proofs.Forms.{rest_part}
use Rattle.std.specs.Prelude.{Ok}
use Rattle.verify.specs.Says.{says}
use Rattle.verify_rules.specs.Reading.{verified}
use Rattle.shelf_verify.proofs.Laws.{front_part, list_refused, list_present, list_absent}
use borrow.Author.Rules.{rules}
use Rattle.shelf_verify.proofs.check_both.Goals as goal

pub returns-in-Err : goal.returns-in-Err
returns-in-Err c =
    let a = c.args in
    rw c.number.ensures (list_refused a.found.now (ap says (sym c.in-Err.is) ∙ c.verify-list.ensures ∙ ap (verified a.root.now a.part.now) (front_part a.e a.proof.now)))

pub returns-in-Ok-Some : goal.returns-in-Ok-Some
returns-in-Ok-Some c =
    let given-bytes : All Byte c.args.proof.now = all_of Byte c.args.proof.now 0 (λ i _. omega (arith, c.shared_slice_known-4-1.given i)) in
    let a = c.args in
    list_present a.found.now given-bytes (ap says (sym (c.in-Ok-Some.is ∙ ap Ok (rw c.in-Ok-Some.is at c.in-Ok-Some.field-0-is))) ∙ c.verify-list.ensures ∙ ap (verified a.root.now a.part.now) (front_part a.e a.proof.now)) c.put_hash.ensures (rest_part a.e a.proof.now) c.grants_verify.ensures

pub returns-in-Ok-None : goal.returns-in-Ok-None
returns-in-Ok-None c =
    let a = c.args in
    list_absent a.found.now (ap says (sym (c.in-Ok-None.is ∙ ap Ok (rw c.in-Ok-None.is at c.in-Ok-None.field-0-is))) ∙ c.verify-list.ensures ∙ ap (verified a.root.now a.part.now) (front_part a.e a.proof.now)) (search rules) c.clear.ensures
