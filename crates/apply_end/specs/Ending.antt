-- Document 01, 'Retirement', at the children of an inner node: what the values of the code say. Assumes nothing.
use Rattle.std.specs.Prelude.{ℕ, ◌<◌, cond, List, [], ◌∷◌, eqb}
use Rattle.terms.specs.Bits.{Bytes, Place, longer, left, right}
use Rattle.place.specs.declared.Place as place
use Rattle.place.specs.Place.{place_of, Proper}
use Rattle.layout.specs.Stores.{store_of}
use Rattle.steps.specs.Step as step
use Rattle.apply_place.specs.declared.Node as node
use Rattle.apply_place.specs.declared.Node.TheVariants as N
use Rattle.apply_place.specs.Placing.{Stored, Single, node_at}
use Rattle.apply_outcome.specs.declared.Change as change
use Rattle.apply_outcome.specs.declared.Change.TheVariants.{Updated, Deleted, Unchanged}
use Rattle.apply_end.specs.declared.Remains as declared
use Rattle.apply_end.specs.declared.Remains.TheVariants.{Nothing, Leaf, More}

-- The node of a child; version 0 is no child.
unfoldable pub child_nodes : ℕ → Place → List step.Node
child_nodes v p = cond (eqb v 0) [] (node_at v p ∷ [])

-- A child that was updated or deleted ends.
abbrev pub ends_says : change.Change → ℕ → Place → List step.Node
ends_says Updated v p = child_nodes v p
ends_says Deleted v p = child_nodes v p
ends_says Unchanged v p = []

-- A lone leaf, on either side, is all that remains; two nodes, or a lone inner node, are more.
abbrev pub remains_of : node.Node → node.Node → declared.Remains
remains_of N.Nothing N.Nothing = Nothing
remains_of N.Nothing (N.Leaf v k x) = Leaf k x
remains_of N.Nothing (N.Inner v l r i j) = More
remains_of (N.Leaf v k x) N.Nothing = Leaf k x
remains_of (N.Leaf v k x) (N.Leaf w j y) = More
remains_of (N.Leaf v k x) (N.Inner w l r i j) = More
remains_of (N.Inner v l r i j) n = More

-- Two children of the node at a place, each of which is one record at most.
pub record Ends (s : Bytes) (lversion rversion : ℕ) (p : place.Place) : Type 0 where
  pub stored : Stored s
  pub proper : Proper p
  pub short : p.count < 256
  pub left_once : Single lversion (longer left (place_of p)) (store_of s).slots
  pub right_once : Single rversion (longer right (place_of p)) (store_of s).slots
