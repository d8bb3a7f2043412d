-- `finding::finding` meets its contract: 12, then check, then the sound store. Assumes nothing.
use native.Mathlib.Omega.{arith}
use mathlib.Core.Path.{refl}
use Rattle.std.proofs.lemmas.Result.{err_from_is_err_and}
use Rattle.refusal_numbers.proofs.Numbers.{not_zero}
use Rattle.terms.specs.Bits.{Byte}
use Rattle.terms.proofs.Lists.{all_of}
use Rattle.promises.proofs.Calls.{checked_sound}
use Rattle.contracts.specs.Finds.{wrong_key, wrong_store}
use Rattle.finding.proofs.Answering.{answered}
use Rattle.finding.proofs.finding.Goals as goal

pub returns-then-key-ne32 : goal.returns-then-key-ne32
returns-then-key-ne32 c = wrong_key c.if-key-ne32.true

pub returns-in_err-check : goal.returns-in_err-check
returns-in_err-check c =
    let p = err_from_is_err_and c.from_residual.result c.from_residual.ensures.1 in
    rw (p.1, p.2) (wrong_store c.if-key-ne32.false c.in_err-check.ensures (not_zero c.in_err-check.field-0.0))

pub found_sound-requires : goal.found_sound-requires
found_sound-requires c = (checked_sound c.in_ok-check.ensures refl, c.if-key-ne32.false)

pub returns : goal.returns
returns c =
    let a = c.args in
    answered a.store.now a.version a.key.now a.proof.now (checked_sound c.in_ok-check.ensures refl)
    (all_of Byte a.proof.now 0 (λ i _. omega (arith, c.shared_slice_known-3-1.given i))) c.if-key-ne32.false _ c.found_sound.ensures
