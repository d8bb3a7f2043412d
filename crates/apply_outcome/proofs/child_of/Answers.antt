-- `apply_outcome::child_of` meets its contract, by the case of the node. Assumes nothing.
use Rattle.apply_outcome.proofs.Saying.{child_nothing, child_leaf, child_inner}
use Rattle.apply_outcome.proofs.child_of.Goals as goal

pub returns-in-Nothing : goal.returns-in-Nothing
returns-in-Nothing c = child_nothing c.args.node _ c.in-Nothing.is c.no_hash-hash.ensures

pub returns-in-Leaf : goal.returns-in-Leaf
returns-in-Leaf c = child_leaf c.args.node _ c.in-Leaf.is c.grant_hash-hash.ensures

pub returns-in-Inner : goal.returns-in-Inner
returns-in-Inner c = child_inner c.args.node _ c.in-Inner.is c.inner_hash-hash.ensures
