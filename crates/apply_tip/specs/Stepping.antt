-- Document 01, 'The tree of a set of grants': where the steps at a node and at a child are taken. Assumes nothing.
use Rattle.std.specs.Prelude.{ℕ, ◌-◌, ◌<◌, ◌≤◌, ◌≡◌, Bool, false}
use Rattle.terms.specs.Bits.{Bytes, Place}
use Rattle.nodehash.specs.Node.{leaf_hash, inner_hash}
use Rattle.place.specs.declared.Place as place
use Rattle.place.specs.Place.{place_of}
use Rattle.layout.specs.Stores.{store_of}
use Rattle.std.specs.declared.option.Option as option
use Rattle.lookup.specs.Lookup.{FoundIn}
use Rattle.batch.specs.Batch.{asks}
use Rattle.batch.specs.Runs.{Run}
use Rattle.steps.specs.Step as step
use Rattle.steps.specs.Given.{Older}
use Rattle.apply_place.specs.Placing.{Single}
use Rattle.apply_place.specs.Reach.{Starts}
use Rattle.apply_read.specs.Standing.{tree_here, Standing, is_inner}

-- An older tree stands at the place, the run is for it, and each older node is there once.
pub record Here (new : ℕ) (writes : Bool) (from : ℕ) (s : Bytes) (p : place.Place) (v : ℕ) (part : Bytes) : Type 0 where
  pub standing : Standing s p v
  pub starts : Starts writes (store_of s).slots from
  pub number : 1 ≤ new
  pub run : Run (place_of p) part
  pub older : Older new (place_of p) (tree_here s p v)
  pub single : (w : ℕ) (q : Place) → w < new → Single w q (store_of s).slots

-- No inner node stands there, and this was found.
pub record AtTip (new : ℕ) (writes : Bool) (from : ℕ) (s : Bytes) (p : place.Place) (v : ℕ) (o : option.Option ℕ)
    (part : Bytes) : Type 0 where
  pub here : Here new writes from s p v part
  pub there : FoundIn (store_of s).slots v (place_of p) o
  pub tip : is_inner (tree_here s p v) ≡ false

-- The step at the node there, and at the child.
unfoldable pub at_node : ℕ → Bytes → place.Place → ℕ → Bytes → step.Outcome
at_node new s p v part =
    step.step_node leaf_hash inner_hash new (256 - p.count) (place_of p) (tree_here s p v) (asks part)

unfoldable pub at_child : ℕ → Bytes → place.Place → ℕ → Bytes → step.Outcome
at_child new s p v part =
    step.step_child (step.step_node leaf_hash inner_hash new (256 - p.count)) (place_of p) (tree_here s p v) (asks part)
