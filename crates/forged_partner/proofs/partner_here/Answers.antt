-- `forged_partner::partner_here` meets its contract: another first word, or no node, is none; else its message decides. Assumes nothing.
use mathlib.Core.Path.{ap, sym, ◌∙◌}
use Rattle.store.proofs.Slots.{slot_within}
use Rattle.forged_message.specs.Parts.{message_bytes}
use Rattle.forged_slot.specs.Slot.{message_in}
use Rattle.forged_partner.proofs.Partnering.{other_word, no_node_no_partner, node_partner}
use Rattle.forged_partner.proofs.partner_here.Goals as goal

pub returns-then-noted-word : goal.returns-then-noted-word
returns-then-noted-word c = other_word _ _ (message_bytes c.args.m) c.requires.1 c.requires.2 c.if-noted-word.true

pub stands_in-requires : goal.stands_in-requires
stands_in-requires c = c.requires.0

pub returns-then-not-stands_in : goal.returns-then-not-stands_in
returns-then-not-stands_in c = no_node_no_partner _ _ _ (sym c.stands_in.ensures ∙ c.if-not-stands_in.true)

pub slot_of-requires : goal.slot_of-requires
slot_of-requires c = slot_within c.requires.0

pub returns : goal.returns
returns c =
    node_partner _ _ _ (message_bytes c.record_message.result) (sym c.stands_in.ensures ∙ c.if-not-stands_in.false)
    (c.record_message.ensures ∙ ap message_in c.slot_of.ensures.0) c.collides.ensures
