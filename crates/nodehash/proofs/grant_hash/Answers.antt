use Rattle.nodehash.specs.Node.{leaf_hash}
use Rattle.nodehash.proofs.grant_hash.Goals as goal

pub returns : goal.returns
unfolding leaf_hash
returns c = c.node_hash.ensures
