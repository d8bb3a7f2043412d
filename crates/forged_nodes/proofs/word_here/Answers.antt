-- `forged_nodes::word_here` meets its contract: of no node any word will do, else its message's is taken. Assumes nothing.
use mathlib.Core.Path.{ap, sym, ◌∙◌}
use Rattle.store.proofs.Slots.{slot_within}
use Rattle.forged_message.specs.Parts.{message_bytes}
use Rattle.forged_slot.specs.Slot.{message_in}
use Rattle.forged_nodes.proofs.Noting.{no_node_any_word, node_word}
use Rattle.forged_nodes.proofs.word_here.Goals as goal

pub stands_in-requires : goal.stands_in-requires
stands_in-requires c = c.requires

pub returns-then-not-stands_in : goal.returns-then-not-stands_in
returns-then-not-stands_in c = no_node_any_word _ _ (sym c.stands_in.ensures ∙ c.if-not-stands_in.true)

pub slot_of-requires : goal.slot_of-requires
slot_of-requires c = slot_within c.requires

pub returns : goal.returns
returns c = node_word _ _ (message_bytes c.record_message.result) (c.record_message.ensures ∙ ap message_in c.slot_of.ensures.0) c.hash_word.ensures
