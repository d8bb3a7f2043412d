-- A digest has 32 bytes, so both hashes of a node have. Assumes nothing.
use Rattle.meaning.specs.Sound.{Hashes32}
use Rattle.sha256.proofs.Digests.{digest_whole}
use Rattle.nodehash.specs.Node.{leaf_hash, inner_hash}

pub leaf_hash_whole : Hashes32 leaf_hash
unfolding leaf_hash
leaf_hash_whole k x = digest_whole _

pub inner_hash_whole : Hashes32 inner_hash
unfolding inner_hash
inner_hash_whole l r = digest_whole _
