-- `check_slot::slot_passes` meets its contract, by the kind that was read. Assumes nothing.
use native.Mathlib.Omega.{arith}
use mathlib.Core.Path.{ap, ap₂, sym, ◌∙◌}
use Rattle.terms.specs.Records.{tally}
use Rattle.layout.specs.Slots.{counts_in}
use Rattle.terms.specs.Bits.{Byte}
use Rattle.terms.proofs.Lists.{all_of}
use Rattle.store.proofs.Slots.{slot_within}
use Rattle.check_slot.proofs.Passing.{leaf_head, leaf_bare, inner_head_lem, inner_short, free_slot, leaf_slot_lem, inner_slot_lem, spoiled_slot}
use Rattle.check_slot.proofs.slot_passes.Goals as goal

pub slot_of-s-requires : goal.slot_of-s-requires
slot_of-s-requires c = slot_within c.requires.0

pub leaf_passes-requires : goal.leaf_passes-requires
leaf_passes-requires c = (
  leaf_head c.requires.0 c.slot_of-s.ensures.0 c.read_slot-slot.ensures
      (all_of Byte c.args.store.now 0 (λ i _. omega (arith, c.shared_slice_known-1.given i))) c.requires.1
      c.in-Leaf.is,
  c.slot_of-s.ensures.2,
  leaf_bare c.requires.0 c.slot_of-s.ensures.0 c.read_slot-slot.ensures
      (all_of Byte c.args.store.now 0 (λ i _. omega (arith, c.shared_slice_known-1.given i))) c.requires.1
      c.in-Leaf.is,
)

pub child_count_at-lefts-requires : goal.child_count_at-lefts-requires
child_count_at-lefts-requires c = slot_within c.requires.0

pub child_count_at-rights-requires : goal.child_count_at-rights-requires
child_count_at-rights-requires c = slot_within c.requires.0

pub inner_passes-requires : goal.inner_passes-requires
inner_passes-requires c = (
  inner_head_lem c.requires.0 c.slot_of-s.ensures.0 c.read_slot-slot.ensures
      (all_of Byte c.args.store.now 0 (λ i _. omega (arith, c.shared_slice_known-1.given i))) c.requires.1 _ _
      c.in-Inner.is,
  inner_short c.requires.0 c.slot_of-s.ensures.0 c.read_slot-slot.ensures
      (all_of Byte c.args.store.now 0 (λ i _. omega (arith, c.shared_slice_known-1.given i))) c.requires.1 _ _
      c.in-Inner.is,
)

pub returns-in-Free : goal.returns-in-Free
returns-in-Free c = free_slot c.requires.0 c.slot_of-s.ensures.0 c.read_slot-slot.ensures c.in-Free.is

pub returns-in-Leaf : goal.returns-in-Leaf
returns-in-Leaf c =
    leaf_slot_lem c.requires.0 c.slot_of-s.ensures.0 c.read_slot-slot.ensures c.in-Leaf.is
    c.leaf_passes.ensures

pub returns-in-Inner : goal.returns-in-Inner
returns-in-Inner c =
    inner_slot_lem c.requires.0 c.slot_of-s.ensures.0 c.read_slot-slot.ensures _ _ c.in-Inner.is _
    (ap₂ tally c.child_count_at-lefts.ensures c.child_count_at-rights.ensures ∙ ap counts_in (sym c.slot_of-s.ensures.0)) c.inner_passes.ensures

pub returns-in-Spoiled : goal.returns-in-Spoiled
returns-in-Spoiled c = spoiled_slot c.requires.0 c.slot_of-s.ensures.0 c.read_slot-slot.ensures c.in-Spoiled.is
