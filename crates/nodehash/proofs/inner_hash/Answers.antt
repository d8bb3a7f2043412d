-- The node's hash with the byte 0.
-- Assumes nothing.
use Rattle.nodehash.specs.Node.{inner_hash}
use Rattle.nodehash.proofs.inner_hash.Goals as goal

pub returns : goal.returns
unfolding inner_hash
returns c = c.node_hash.ensures
