-- `slots_put::clear_slot` meets its contract: a free slot is zero bytes. Assumes nothing.
use mathlib.Core.Path.{ap, ◌∙◌}
use Rattle.terms.specs.Fields.{zero_bytes}
use Rattle.layout.specs.Slots.{slot_bytes}
use Rattle.slots_put.proofs.clear_slot.Goals as goal

pub returns : goal.returns
unfolding slot_bytes
returns c = λ f l. c.clear.ensures ∙ ap zero_bytes l
