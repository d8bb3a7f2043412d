-- `guess::holds` meets its contract: no slot beyond the last holds anything, and else the slot is looked at. Assumes nothing.
use Rattle.place.specs.Place.{place_of}
use Rattle.guess.proofs.Looking.{slot_has, held}
use Rattle.guess.proofs.holds.Goals as goal

pub slot_count-n-requires : goal.slot_count-n-requires
slot_count-n-requires c = c.requires.0

pub holds_node-requires : goal.holds_node-requires
holds_node-requires c = (slot_has c.args.store.now c.requires.0 c.slot_count-n.ensures c.if-n-i.false, c.requires.1)

pub returns : goal.returns
returns c =
    held (slot_has c.args.store.now c.requires.0 c.slot_count-n.ensures c.if-n-i.false)
    c.args.version (place_of c.args.place) _ c.holds_node.ensures
