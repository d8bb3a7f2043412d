-- `check_quick::in_order` meets its contract: where the entries follow each other and name each record, no two share their node, and roots are
-- parted. Assumes nothing.
use native.Mathlib.Omega.{arith}
use lib.ListN.{length}
use Rattle.terms.specs.Bits.{Byte}
use Rattle.terms.proofs.Lists.{all_of}
use Rattle.check_quick.proofs.Fine.{all_alone}
use Rattle.check_quick.proofs.in_order.Goals as goal

pub returns : goal.returns
returns c =
    all_alone _ c.args.store.now c.requires
    (all_of Byte c.args.store.now 0 (λ i _. omega (arith, c.shared_slice_known-1.given i)))
    c.args.order.now (length c.args.order.now) c.ascending-up.result c.named-i.result c.if-up-order.false
    c.ascending-up.ensures (omega (arith, c.if-i-n.false, c.slot_count-n.ensures)) c.named-i.ensures
