-- `apply_ready::count_free` meets its contract: each slot is passed once. Assumes nothing.
use native.Mathlib.Omega.{arith}
use mathlib.Core.Path.{ap, sym, ◌∙◌}
use Rattle.terms.specs.Fields.{all_zero}
use Rattle.apply_place.proofs.Changing.{stored_size}
use Rattle.store.proofs.Slots.{slot_within}
use Rattle.store.proofs.Scans.{scan_slot}
use Rattle.apply_ready.proofs.Counting.{from_none, one_free, not_one, all_counted}
use Rattle.apply_ready.proofs.count_free.Goals as goal
use Rattle.apply_ready.proofs.count_free.Goals.{then-all_zero, else-all_zero}

pub slot_count-n-requires : goal.slot_count-n-requires
slot_count-n-requires c = stored_size c.requires

pub loop-i-init : goal.loop-i-init
loop-i-init c = from_none c.requires c.slot_count-n.ensures

pub slot_of-requires : goal.slot_of-requires
slot_of-requires c = slot_within (scan_slot c.loop-i.invariant.scan c.loop-i-test.true)

pub overflow_add-free : goal.overflow_add-free
overflow_add-free c = let w = c.loop-i.invariant in omega (arith, w.few, w.scan.within, w.scan.small)

pub loop-i-preserved : goal.loop-i-preserved
loop-i-preserved c =
    let z = ap all_zero (sym c.slot_of.ensures.0) ∙ sym c.all_zero.ensures in
    elim c.if-all_zero.branch [
      | then-all_zero w ↦ rw w.free-is (one_free c.loop-i.invariant c.loop-i-test.true (z ∙ w.if-all_zero.true))
      | else-all_zero w ↦ rw w.free-is (not_one c.loop-i.invariant c.loop-i-test.true (z ∙ w.if-all_zero.false))
    ]

pub returns : goal.returns
returns c = all_counted c.loop-i.invariant c.loop-i-test.false
