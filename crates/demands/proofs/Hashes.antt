-- The hash of every tree has 32 bytes, since a digest has. Assumes nothing.
use Rattle.terms.specs.Bits.{Whole32}
use Rattle.meaning.specs.Tree.{Tree, hash}
use Rattle.histories.proofs.Forms.{hash32}
use Rattle.nodehash.specs.Node.{leaf_hash, inner_hash}
pub use Rattle.sha256.proofs.Digests.{digest_whole}
pub use Rattle.promises.proofs.Hashes.{leaf_hash_whole, inner_hash_whole}

pub hash_whole : (t : Tree) → Whole32 (hash leaf_hash inner_hash t)
hash_whole = hash32 leaf_hash inner_hash leaf_hash_whole inner_hash_whole
