-- `apply_place::find_free` meets its contract: no slot that was passed is free. Assumes nothing.
use mathlib.Core.Path.{ap, sym, ◌∙◌}
use Rattle.terms.specs.Fields.{all_zero}
use Rattle.store.proofs.Slots.{slot_within}
use Rattle.store.proofs.Scans.{scan_slot}
use Rattle.apply_place.proofs.Changing.{stored_size}
use Rattle.apply_place.proofs.Placing.{search_from_lem, one_more, free_here, none_free}
use Rattle.apply_place.proofs.find_free.Goals as goal

pub slot_count-n-requires : goal.slot_count-n-requires
slot_count-n-requires c = stored_size c.requires.0

pub loop-i-init : goal.loop-i-init
loop-i-init c = search_from_lem c.requires.0 c.slot_count-n.ensures c.requires.1

pub slot_of-requires : goal.slot_of-requires
slot_of-requires c = slot_within (scan_slot c.loop-i.invariant c.loop-i-test.true)

pub loop-i-preserved : goal.loop-i-preserved
loop-i-preserved c = one_more c.loop-i.invariant c.loop-i-test.true (ap all_zero (sym c.slot_of.ensures.0) ∙ sym c.all_zero.ensures ∙ c.if-all_zero.false)

pub returns : goal.returns
returns c = none_free c.loop-i.invariant c.loop-i-test.false

pub returns-then-all_zero : goal.returns-then-all_zero
returns-then-all_zero c = free_here c.loop-i.invariant c.loop-i-test.true (ap all_zero (sym c.slot_of.ensures.0) ∙ sym c.all_zero.ensures ∙ c.if-all_zero.true)
