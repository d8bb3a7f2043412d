-- Document 01, 'Sound': the tree that stands at a version and place of the store that bytes hold. Assumes nothing.
use Rattle.std.specs.Prelude.{ℕ, ◌-◌, ◌≡◌, Bool, true, false}
use Rattle.terms.specs.Bits.{Bytes}
use Rattle.meaning.specs.Tree.{VTree, vnone, vleaf, vinner, top_version}
use Rattle.meaning.specs.Store.{tree_from}
use Rattle.meaning.specs.Sound.{Stands}
use Rattle.nodehash.specs.Node.{leaf_hash, inner_hash}
use Rattle.place.specs.declared.Place as place
use Rattle.place.specs.Place.{place_of, Proper}
use Rattle.layout.specs.Stores.{store_of}
use Rattle.apply_place.specs.Placing.{Stored}
use Rattle.apply_outcome.specs.declared.Change.TheVariants as C
use Rattle.apply_outcome.specs.declared.Outcome as outcome
use Rattle.apply_outcome.specs.Outcomes.{NodeSays}

-- The tree that is read on from a version and place.
unfoldable pub tree_here : Bytes → place.Place → ℕ → VTree
tree_here s p v = tree_from (256 - p.count) (store_of s).slots v (place_of p)

-- An inner node stands at its top.
abbrev pub is_inner : VTree → Bool
is_inner vnone = false
is_inner (vleaf v g) = false
is_inner (vinner v l r) = true

-- It stands there; version 0 is no node.
pub record Standing (s : Bytes) (p : place.Place) (v : ℕ) : Type 0 where
  pub stored : Stored s
  pub proper : Proper p
  pub stands : Stands leaf_hash inner_hash (store_of s) (place_of p) (tree_here s p v)
  pub top : top_version (tree_here s p v) ≡ v

-- An outcome where nothing changes.
pub record Unchanged (from : ℕ) (t : VTree) (r : outcome.Outcome) : Type 0 where
  pub change : r.change ≡ C.Unchanged
  pub node : NodeSays true r.node t
  pub reach : r.reach ≡ from
