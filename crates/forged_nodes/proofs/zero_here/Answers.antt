-- `forged_nodes::zero_here` meets its contract: a first word above 0, or no node, is none; else its message decides. Assumes nothing.
use mathlib.Core.Path.{ap, sym, ◌∙◌}
use Rattle.store.proofs.Slots.{slot_within}
use Rattle.forged_message.specs.Parts.{message_bytes}
use Rattle.forged_slot.specs.Slot.{message_in}
use Rattle.forged_nodes.proofs.Noting.{word_not_zero, no_node_no_zero, node_zero}
use Rattle.forged_nodes.proofs.zero_here.Goals as goal

pub returns-then-noted-ne0 : goal.returns-then-noted-ne0
returns-then-noted-ne0 c = word_not_zero _ _ c.requires.1 c.if-noted-ne0.true

pub stands_in-requires : goal.stands_in-requires
stands_in-requires c = c.requires.0

pub returns-then-not-stands_in : goal.returns-then-not-stands_in
returns-then-not-stands_in c = no_node_no_zero _ _ (sym c.stands_in.ensures ∙ c.if-not-stands_in.true)

pub slot_of-requires : goal.slot_of-requires
slot_of-requires c = slot_within c.requires.0

pub returns : goal.returns
returns c =
    node_zero _ _ (message_bytes c.record_message.result) (sym c.stands_in.ensures ∙ c.if-not-stands_in.false)
    (c.record_message.ensures ∙ ap message_in c.slot_of.ensures.0) c.hashes_to_zero.ensures
