-- `rescue_count::count_slot` meets its contract: a slot is counted by what it holds before and after. Assumes nothing.
use native.Mathlib.Omega.{arith}
use Rattle.terms.specs.Bits.{Byte}
use Rattle.terms.proofs.Lists.{all_of}
use Rattle.store.proofs.Slots.{slot_within}
use Rattle.rescue_count.proofs.Counting.{counts_free, counts_spoiled, counts_out, counts_same, counts_other}
use Rattle.rescue_count.proofs.count_slot.Goals as goal

pub slot_of-before-requires : goal.slot_of-before-requires
slot_of-before-requires c = search (slot_within c.requires.before, slot_within c.requires.after)

pub slot_of-after-requires : goal.slot_of-after-requires
slot_of-after-requires c = slot_within c.requires.after

pub returns-then-all_zero : goal.returns-then-all_zero
returns-then-all_zero c = counts_free c.requires c.slot_of-before.ensures.0 c.slot_of-after.ensures.0 c.all_zero.ensures c.if-all_zero.true

pub holds_record-requires : goal.holds_record-requires
holds_record-requires c = c.slot_of-before.ensures.2

pub overflow_add-now : goal.overflow_add-now
overflow_add-now c = omega (arith, c.requires.few)

pub returns-then-not-holds_record : goal.returns-then-not-holds_record
returns-then-not-holds_record c = counts_spoiled c.requires c.slot_of-before.ensures.0 c.slot_of-after.ensures.0 c.all_zero.ensures c.if-all_zero.false c.holds_record.ensures c.if-not-holds_record.true

pub holds_record-requires-2 : goal.holds_record-requires-2
holds_record-requires-2 c = c.slot_of-after.ensures.2

pub overflow_add-now-then-not-holds_record-2 : goal.overflow_add-now-then-not-holds_record-2
overflow_add-now-then-not-holds_record-2 c = omega (arith, c.requires.few)

pub returns-then-not-holds_record-2 : goal.returns-then-not-holds_record-2
returns-then-not-holds_record-2 c = counts_out c.requires c.slot_of-before.ensures.0 c.slot_of-after.ensures.0 c.holds_record.ensures c.if-not-holds_record.false c.holds_record-2.ensures c.if-not-holds_record-2.true

pub retired_at-requires : goal.retired_at-requires
retired_at-requires c = slot_within c.requires.before

pub retired_at-requires-2 : goal.retired_at-requires-2
retired_at-requires-2 c = slot_within c.requires.after

pub overflow_add-now-then-retired_at : goal.overflow_add-now-then-retired_at
overflow_add-now-then-retired_at c = omega (arith, c.requires.few)

pub returns-then-retired_at : goal.returns-then-retired_at
returns-then-retired_at c =
    counts_same c.requires c.slot_of-before.ensures.0 c.slot_of-after.ensures.0 c.holds_record.ensures c.if-not-holds_record.false c.holds_record-2.ensures
    c.if-not-holds_record-2.false (all_of Byte c.args.source.now 0 (λ i _. omega (arith, c.shared_slice_known-1.given i)))
    (all_of Byte c.args.target.now 0 (λ i _. omega (arith, c.shared_slice_known-2-1.given i))) c.retired_at.ensures c.retired_at-2.ensures c.if-retired_at.true

pub overflow_add-now-2 : goal.overflow_add-now-2
overflow_add-now-2 c = omega (arith, c.requires.few)

pub returns : goal.returns
returns c =
    counts_other c.requires c.slot_of-before.ensures.0 c.slot_of-after.ensures.0 c.holds_record.ensures c.if-not-holds_record.false c.holds_record-2.ensures
    c.if-not-holds_record-2.false (all_of Byte c.args.source.now 0 (λ i _. omega (arith, c.shared_slice_known-1.given i)))
    (all_of Byte c.args.target.now 0 (λ i _. omega (arith, c.shared_slice_known-2-1.given i))) c.retired_at.ensures c.retired_at-2.ensures c.if-retired_at.false
