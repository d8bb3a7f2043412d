-- `shelf_verify::grants_shelf_verify` meets its contract: the lengths, the bits, the form, then one check after the other. Assumes nothing.
use native.Mathlib.Omega.{arith}
use Rattle.shelf_verify.specs.Both.{is_shelf}
use mathlib.Core.Path.{ap, sym, ◌∙◌}
use Rattle.terms.specs.Bits.{Byte, All}
use Rattle.hash.proofs.Digits.{all_bytes}
use Rattle.shelf_verify.proofs.Laws.{part_key_lem, first_within, shelf_root_off, shelf_key_off, bits_off, shelf_off_form, both_checked, shelf_refused, as_both}
use Rattle.shelf_verify.proofs.grants_shelf_verify.Goals as goal

pub returns-then-root-ne32 : goal.returns-then-root-ne32
returns-then-root-ne32 c =
    let lent-bytes : All Byte c.args.proof.now = all_bytes c.args.proof.now (λ i. omega (arith, c.shared_slice_known-3-1.given i)) in
    let a = c.args in
    rw c.number.ensures (shelf_refused lent-bytes a.found.now (shelf_root_off a.root.now a.bits a.key.now a.proof.now c.if-root-ne32.true))

pub returns-then-key-ne32 : goal.returns-then-key-ne32
returns-then-key-ne32 c =
    let lent-bytes : All Byte c.args.proof.now = all_bytes c.args.proof.now (λ i. omega (arith, c.shared_slice_known-3-1.given i)) in
    let a = c.args in
    rw c.number-then-key-ne32.ensures (shelf_refused lent-bytes a.found.now (shelf_key_off a.root.now a.bits a.key.now a.proof.now c.if-root-ne32.false c.if-key-ne32.true))

pub returns-then-bits-gt-MOST_BITS : goal.returns-then-bits-gt-MOST_BITS
returns-then-bits-gt-MOST_BITS c =
    let lent-bytes : All Byte c.args.proof.now = all_bytes c.args.proof.now (λ i. omega (arith, c.shared_slice_known-3-1.given i)) in
    let a = c.args in
    rw c.number-then-bits-gt-MOST_BITS.ensures (shelf_refused lent-bytes a.found.now
    (bits_off a.root.now a.bits a.key.now a.proof.now c.if-root-ne32.false c.if-key-ne32.false c.if-bits-gt-MOST_BITS.true))

pub is_shelf-requires : goal.is_shelf-requires
is_shelf-requires c = omega (arith, c.first_end-e.ensures, first_within c.args.proof.now)

pub returns-then-not-is_shelf : goal.returns-then-not-is_shelf
returns-then-not-is_shelf c =
    let lent-bytes : All Byte c.args.proof.now = all_bytes c.args.proof.now (λ i. omega (arith, c.shared_slice_known-3-1.given i)) in
    let a = c.args in
    rw c.number-then-not-is_shelf.ensures (shelf_refused lent-bytes a.found.now
    (shelf_off_form a.root.now a.bits a.key.now a.proof.now c.if-root-ne32.false c.if-key-ne32.false c.if-bits-gt-MOST_BITS.false
    (sym (ap (λ n. is_shelf n a.proof.now) c.first_end-e.ensures) ∙ sym c.is_shelf.ensures ∙ c.if-not-is_shelf.true)))

pub check_both-requires : goal.check_both-requires
check_both-requires c = omega (arith, c.first_end-e.ensures, first_within c.args.proof.now)

pub returns : goal.returns
returns c =
    let lent-bytes : All Byte c.args.proof.now = all_bytes c.args.proof.now (λ i. omega (arith, c.shared_slice_known-3-1.given i)) in
    let a = c.args in
    let w = c.check_both.ensures in
    let k = part_key_lem a.bits a.key.now c.front.result c.front.ensures in
    as_both lent-bytes (both_checked a.root.now a.bits a.key.now a.proof.now c.if-root-ne32.false c.if-key-ne32.false c.if-bits-gt-MOST_BITS.false
    (sym (ap (λ n. is_shelf n a.proof.now) c.first_end-e.ensures) ∙ sym c.is_shelf.ensures ∙ c.if-not-is_shelf.false))
    k c.first_end-e.ensures w
