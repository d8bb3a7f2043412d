-- `pocket_verify::grants_pocket_verify` meets its contract: the lengths, then the profile, then the full check. Assumes nothing.
use native.Mathlib.Omega.{arith}
use mathlib.Core.Path.{sym, ◌∙◌}
use Rattle.terms.specs.Bits.{Byte, All}
use Rattle.terms.proofs.Lists.{all_of}
use Rattle.verify_rules.proofs.Pocket.{root_off, key_off, is_outside, not_outside}
use Rattle.pocket_verify.proofs.Checks.{pocket_refused, as_full}
use Rattle.pocket_verify.proofs.grants_pocket_verify.Goals as goal

pub returns-then-root-ne32 : goal.returns-then-root-ne32
returns-then-root-ne32 c =
    let given-bytes : All Byte c.args.proof.now = all_of Byte c.args.proof.now 0 (λ i _. omega (arith, c.shared_slice_known-3-1.given i)) in
    let a = c.args in
    rw c.number.ensures (pocket_refused given-bytes a.found.now (root_off a.root.now a.key.now a.proof.now c.if-root-ne32.true))

pub returns-then-key-ne32 : goal.returns-then-key-ne32
returns-then-key-ne32 c =
    let given-bytes : All Byte c.args.proof.now = all_of Byte c.args.proof.now 0 (λ i _. omega (arith, c.shared_slice_known-3-1.given i)) in
    let a = c.args in
    rw c.number-then-key-ne32.ensures (pocket_refused given-bytes a.found.now (key_off a.root.now a.key.now a.proof.now c.if-root-ne32.false c.if-key-ne32.true))

pub returns-then-is_outside : goal.returns-then-is_outside
returns-then-is_outside c =
    let given-bytes : All Byte c.args.proof.now = all_of Byte c.args.proof.now 0 (λ i _. omega (arith, c.shared_slice_known-3-1.given i)) in
    let a = c.args in
    rw c.number-then-is_outside.ensures (pocket_refused given-bytes a.found.now
    (is_outside a.root.now a.key.now a.proof.now c.if-root-ne32.false c.if-key-ne32.false (sym c.is_outside.ensures ∙ c.if-is_outside.true)))

pub returns : goal.returns
returns c =
    let given-bytes : All Byte c.args.proof.now = all_of Byte c.args.proof.now 0 (λ i _. omega (arith, c.shared_slice_known-3-1.given i)) in
    let a = c.args in
    as_full given-bytes (not_outside a.root.now a.key.now a.proof.now (sym c.is_outside.ensures ∙ c.if-is_outside.false)) c.grants_verify.ensures
