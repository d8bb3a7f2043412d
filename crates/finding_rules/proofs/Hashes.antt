-- With SHA-256 the hashes of a leaf and of an inner node are those of document 01. By unfolding. Assumes nothing.
use Prim.Native.Nat.{ℕ}
use mathlib.Core.Path.{◌≡◌, refl}
use mathlib.Core.Logic.{◌↔◌}
use Rattle.terms.specs.Bits.{Bytes}
use Rattle.terms.specs.Records.{Proof, Store}
use Rattle.meaning.specs.Tree.{hash, unversioned}
use Rattle.meaning.specs.Store.{tree_at_version}
use Rattle.meaning.specs.Reading.{Verdict}
use Rattle.checker.specs.Holding.{Holds}
use Rattle.sha256.specs.Sha256.{sha256}
use Rattle.nodehash.specs.Node as node
use Rattle.forgery.specs.Messages.{leaf_hash, inner_hash}
use Rattle.finding_rules.specs.Call.{HoldsAt}

pub leaf_is : node.leaf_hash ≡ leaf_hash sha256
unfolding node.leaf_hash
leaf_is = refl

pub inner_is : node.inner_hash ≡ inner_hash sha256
unfolding node.inner_hash
inner_is = refl

-- so a proof holds against the root of a version as 01 says
pub holds_alike : (st : Store) (v : ℕ) (k : Bytes) (p : Proof) (a : Verdict) →
    HoldsAt sha256 st v k p a ↔ Holds node.leaf_hash node.inner_hash (hash node.leaf_hash node.inner_hash (unversioned (tree_at_version st v))) k p a
unfolding node.leaf_hash node.inner_hash
holds_alike st v k p a = (λ h. h, λ h. h)
