-- `check_own::slot_right` meets its contract: free, a leaf, an inner record, or spoiled. Assumes nothing.
use native.Mathlib.Omega.{arith}
use mathlib.Core.Path.{ap, sym, ◌∙◌}
use Rattle.terms.specs.Fields.{all_zero}
use Rattle.layout.specs.Slots.{is_leaf, is_inner}
use Rattle.terms.specs.Bits.{Byte}
use Rattle.terms.proofs.Lists.{all_of}
use Rattle.store.proofs.Slots.{slot_within}
use Rattle.check_pass.proofs.Passes.{pass_map}
use Rattle.check_own.proofs.Owning.{free_own, leaf_own, inner_own}
use Rattle.check_own.proofs.slot_right.Goals as goal

pub slot_of-s-requires : goal.slot_of-s-requires
slot_of-s-requires c = slot_within c.requires.0

pub returns-then-all_zero : goal.returns-then-all_zero
returns-then-all_zero c =
    free_own c.requires.0 (all_of Byte c.args.store.now 0 (λ i _. omega (arith, c.shared_slice_known-1.given i)))
    c.requires.1 (ap all_zero (sym c.slot_of-s.ensures.0) ∙ sym c.all_zero.ensures ∙ c.if-all_zero.true)

pub returns-then-is_leaf : goal.returns-then-is_leaf
returns-then-is_leaf c =
    pass_map c.leaf_right.result
    (leaf_own c.requires.0 (all_of Byte c.args.store.now 0 (λ i _. omega (arith, c.shared_slice_known-1.given i)))
    c.requires.1 (ap all_zero (sym c.slot_of-s.ensures.0) ∙ sym c.all_zero.ensures ∙ c.if-all_zero.false)
    (ap is_leaf (sym c.slot_of-s.ensures.0) ∙ sym c.is_leaf.ensures ∙ c.if-is_leaf.true)) c.leaf_right.ensures

pub returns-then-is_inner : goal.returns-then-is_inner
returns-then-is_inner c =
    pass_map c.head_right.result
    (inner_own c.requires.0 (all_of Byte c.args.store.now 0 (λ i _. omega (arith, c.shared_slice_known-1.given i)))
    c.requires.1 (ap all_zero (sym c.slot_of-s.ensures.0) ∙ sym c.all_zero.ensures ∙ c.if-all_zero.false)
    (ap is_leaf (sym c.slot_of-s.ensures.0) ∙ sym c.is_leaf.ensures ∙ c.if-is_leaf.false)
    (ap is_inner (sym c.slot_of-s.ensures.0) ∙ sym c.is_inner.ensures ∙ c.if-is_inner.true)) c.head_right.ensures
