-- `apply_root::at_root` meets its contract: the step at the node, the mark of the old root, and the new root. Assumes nothing.
use native.Mathlib.Omega.{arith}
use Rattle.apply_root.proofs.Root.{root_once, root_places, root_did}
use Rattle.apply_root.proofs.at_root.Goals as goal

pub at_child-below-requires : goal.at_child-below-requires
at_child-below-requires c = c.requires.here

pub mark_changed-requires : goal.mark_changed-requires
mark_changed-requires c = root_once c.requires c.at_child-below.ensures

pub place_node-reach-requires : goal.place_node-reach-requires
place_node-reach-requires c = root_places c.requires c.at_child-below.ensures (omega (arith, c.ranges.new.fits)) c.mark_changed.ensures c.new_root-node.ensures

pub returns : goal.returns
returns c = root_did c.requires c.at_child-below.ensures c.mark_changed.ensures c.new_root-node.ensures c.place_node-reach.ensures
