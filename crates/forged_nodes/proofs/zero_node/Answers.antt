-- `forged_nodes::zero_node` meets its contract: no slot passed is such a node. Assumes nothing.
use native.Mathlib.Omega.{arith}
use mathlib.Core.Path.{ap, sym, ◌∙◌}
use Rattle.store.proofs.Slots.{slot_within}
use Rattle.store.proofs.Scans.{scan_slot}
use Rattle.forged_slot.specs.Slot.{message_in}
use Rattle.forged_nodes.proofs.Words.{noted_inside, word_of}
use Rattle.forged_nodes.proofs.Scanning.{zero_start, zero_next, zero_found, no_zero}
use Rattle.forged_nodes.proofs.zero_node.Goals as goal

pub slot_count-n-requires : goal.slot_count-n-requires
slot_count-n-requires c = c.requires.size

pub loop-i-init : goal.loop-i-init
loop-i-init c = zero_start c.args.store.now c.args.version c.requires.size c.slot_count-n.ensures

pub offset_bounds-words-i : goal.offset_bounds-words-i
offset_bounds-words-i c = omega (arith, noted_inside c.requires c.slot_count-n.ensures c.loop-i-test.true)

pub bounds-words-i : goal.bounds-words-i
bounds-words-i c = omega (arith, noted_inside c.requires c.slot_count-n.ensures c.loop-i-test.true)

pub zero_here-requires : goal.zero_here-requires
zero_here-requires c =
    let counted = c.slot_count-n.ensures in
    (scan_slot c.loop-i.invariant c.loop-i-test.true, word_of c.requires counted c.loop-i-test.true)

pub slot_of-requires : goal.slot_of-requires
slot_of-requires c = slot_within (scan_slot c.loop-i.invariant c.loop-i-test.true)

pub returns-then-zero_here : goal.returns-then-zero_here
returns-then-zero_here c =
    let a = c.args in
    zero_found a.version c.loop-i.invariant c.loop-i-test.true (sym c.zero_here.ensures ∙ c.if-zero_here.true)
    c.record_message-node.result (c.record_message-node.ensures ∙ ap message_in c.slot_of.ensures.0)

pub loop-i-preserved : goal.loop-i-preserved
loop-i-preserved c =
    let a = c.args in
    zero_next a.version c.loop-i.invariant c.loop-i-test.true (sym c.zero_here.ensures ∙ c.if-zero_here.false)

pub returns : goal.returns
returns c =
    let a = c.args in
    no_zero a.version c.loop-i.invariant c.loop-i-test.false
