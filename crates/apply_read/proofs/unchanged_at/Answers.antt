-- `apply_read::unchanged_at` meets its contract: the node that is read is the one that stands there. Assumes nothing.
use mathlib.Core.Path.{refl}
use Rattle.apply_read.proofs.Standing.{node_none, slot_used, node_there}
use Rattle.apply_read.proofs.unchanged_at.Goals as goal

pub find_near-found-requires : goal.find_near-found-requires
find_near-found-requires c = c.requires.1

pub returns-in_default : goal.returns-in_default
returns-in_default c = record { change = refl; node = node_none c.requires.0 c.find_near-found.ensures c.in_default.is; reach = refl }

pub node_in-node-requires : goal.node_in-node-requires
node_in-node-requires c = slot_used c.requires.0 c.find_near-found.ensures c.in-Some.is

pub returns : goal.returns
returns c = record { change = refl; node = node_there c.requires.0 c.find_near-found.ensures c.in-Some.is c.node_in-node.result c.node_in-node.ensures; reach = refl }
