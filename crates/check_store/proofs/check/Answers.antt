-- `check_store::check` meets its contract: of an accepted header the test of the slots decides soundness. Assumes nothing.
use native.Mathlib.Omega.{arith}
use Rattle.std.proofs.lemmas.Result.{err_from_is_err_and}
use Rattle.terms.specs.Bits.{Byte}
use Rattle.terms.proofs.Lists.{all_of}
use Rattle.check_store.proofs.Answers.{says_refused, says_kept, says_unsound, says_sound}
use Rattle.check_store.proofs.check.Goals as goal

pub returns-in_err-oldest : goal.returns-in_err-oldest
returns-in_err-oldest c =
    let p = err_from_is_err_and c.from_residual.result c.from_residual.ensures.1 in
    rw (p.1, p.2) (says_refused _ c.args.store.now c.read_header.ensures c.in_err-oldest.was)

pub slots_pass-requires : goal.slots_pass-requires
slots_pass-requires c = says_kept _ c.args.store.now c.read_header.ensures c.in_ok-oldest.was

pub returns-then-not-slots_pass : goal.returns-then-not-slots_pass
returns-then-not-slots_pass c =
    let s = c.args.store.now in
    says_unsound _ s c.read_header.ensures c.in_ok-oldest.was
    (all_of Byte s 0 (λ i _. omega (arith, c.shared_slice_known-1.given i)))
    c.slots_pass.ensures c.if-not-slots_pass.true

pub returns : goal.returns
returns c =
    let s = c.args.store.now in
    says_sound _ s c.read_header.ensures c.in_ok-oldest.was
    (all_of Byte s 0 (λ i _. omega (arith, c.shared_slice_known-1.given i)))
    c.slots_pass.ensures c.if-not-slots_pass.false
