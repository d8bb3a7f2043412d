-- `read_descent::leaf_here` meets its contract. Assumes nothing.
use mathlib.Core.Path.{ap, ◌∙◌}
use Rattle.layout.specs.Slots.{is_leaf}
use Rattle.store.proofs.Slots.{slot_within}
use Rattle.read_descent.proofs.leaf_here.Goals as goal

pub slot_of-requires : goal.slot_of-requires
slot_of-requires c = slot_within c.requires

pub returns : goal.returns
returns c = c.is_leaf.ensures ∙ ap is_leaf c.slot_of.ensures.0
