-- Document 01, 'The tree of a set of grants': the hash of a leaf and of an inner node. Assumes nothing.
use Rattle.std.specs.Prelude.{◌∷◌, ◌++◌}
use Rattle.terms.specs.Bits.{Bytes}
use Rattle.sha256.specs.Sha256.{sha256}

-- SHA-256 of byte 1, key, value.
unfoldable pub leaf_hash : Bytes → Bytes → Bytes
leaf_hash k x = sha256 (1 ∷ (k ++ x))

-- SHA-256 of byte 0, left hash, right hash; the hash of a missing child is zeros.
unfoldable pub inner_hash : Bytes → Bytes → Bytes
inner_hash l r = sha256 (0 ∷ (l ++ r))
