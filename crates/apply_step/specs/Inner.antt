-- Document 01, 'The tree of a set of grants': where the step at an inner node is taken. Assumes nothing.
use Rattle.std.specs.Prelude.{ℕ, ◌≡◌, Bool, true, Some}
use Rattle.terms.specs.Bits.{Bytes, left, right}
use Rattle.meaning.specs.Tree.{top_version, kid}
use Rattle.place.specs.declared.Place as place
use Rattle.place.specs.Place.{place_of}
use Rattle.layout.specs.Stores.{store_of}
use Rattle.lookup.specs.Lookup.{FoundIn}
use Rattle.apply_read.specs.Held.{version_in}
use Rattle.apply_read.specs.Standing.{tree_here, is_inner}
use Rattle.apply_tip.specs.Stepping.{Here}

-- The tree's top is an inner node, its record is in a slot, and its children have these versions.
pub record HereInner (new : ℕ) (writes : Bool) (from : ℕ) (s : Bytes) (p : place.Place) (slot l r : ℕ) (part : Bytes) :
    Type 0 where
  pub here : Here new writes from s p (version_in s slot) part
  pub there : FoundIn (store_of s).slots (version_in s slot) (place_of p) (Some slot)
  pub inner : is_inner (tree_here s p (version_in s slot)) ≡ true
  pub left_is : l ≡ top_version (kid left (tree_here s p (version_in s slot)))
  pub right_is : r ≡ top_version (kid right (tree_here s p (version_in s slot)))
