-- Document 01, 'The tree of a set of grants': where a batch is applied to a whole tree, and the new root by value.
-- Assumes nothing.
use Rattle.std.specs.Prelude.{ℕ, ◌≡◌, Bool, []}
use Rattle.terms.specs.Bits.{Bytes}
use Rattle.place.specs.declared.Place as place
use Rattle.place.specs.Place.{place_of}
use Rattle.apply_place.specs.declared.Node as node
use Rattle.apply_place.specs.declared.Node.TheVariants.{Nothing, Leaf, Inner}
use Rattle.apply_tip.specs.Stepping.{Here}

-- The new root has the new version.
abbrev pub new_root_says : ℕ → node.Node → node.Node
new_root_says new Nothing = Nothing
new_root_says new (Leaf v k x) = Leaf new k x
new_root_says new (Inner v l r i j) = Inner new l r i j

-- The tree stands at the empty place.
pub record HereRoot (new : ℕ) (writes : Bool) (s : Bytes) (p : place.Place) (v : ℕ) (batch : Bytes) : Type 0 where
  pub here : Here new writes 0 s p v batch
  pub top : place_of p ≡ []
