-- `apply_tip::at_tip` meets its contract: no node there, or a leaf. Assumes nothing.
use Rattle.apply_tip.proofs.Stepping.{node_grows, grown_did, node_leaf, leaf_did, none_there, tip_used, tip_node, tip_leaf}
use borrow.Enum.Refused.{opened}
use Rattle.apply_tip.proofs.at_tip.Goals as goal

pub grow-requires : goal.grow-requires
grow-requires c = node_grows c.requires.here

pub returns-in_default : goal.returns-in_default
returns-in_default c = grown_did c.requires.here (none_there c.requires c.in_default.is) c.grow.ensures

pub node_in-node-requires : goal.node_in-node-requires
node_in-node-requires c = tip_used c.requires c.in-Some.is

pub grow-requires-in_default-node : goal.grow-requires-in_default-node
grow-requires-in_default-node c = tip_leaf c.requires c.in-Some.is c.node_in-node.result (opened c.in_default-node.in_default-node-own.keys2) c.node_in-node.ensures

pub returns-in_default-node : goal.returns-in_default-node
returns-in_default-node c = tip_leaf c.requires c.in-Some.is c.node_in-node.result (opened c.in_default-node.in_default-node-own.keys2) c.node_in-node.ensures

pub at_leaf-requires : goal.at_leaf-requires
at_leaf-requires c = node_leaf c.requires.here c.in-Leaf.is (tip_node c.requires c.in-Some.is c.node_in-node.result c.node_in-node.ensures)

pub returns : goal.returns
returns c = leaf_did c.requires.here c.in-Leaf.is (tip_node c.requires c.in-Some.is c.node_in-node.result c.node_in-node.ensures) c.at_leaf.ensures
