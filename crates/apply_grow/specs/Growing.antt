-- Document 01, 'The tree of a set of grants': where a run of inserts grows a subtree. Assumes nothing.
use Rattle.std.specs.declared.option.Option as option
use Rattle.std.specs.Prelude.{ℕ, ◌≤◌, Bool}
use Rattle.terms.specs.Bits.{Bytes}
use Rattle.place.specs.declared.Place as place
use Rattle.place.specs.Place.{place_of, Proper}
use Rattle.layout.specs.Stores.{store_of}
use Rattle.batch.specs.Batch.{asks}
use Rattle.batch.specs.Runs.{Run}
use Rattle.apply_place.specs.Placing.{Stored}
use Rattle.apply_place.specs.Reach.{Starts}
use Rattle.apply_inserts.specs.declared.Grant as declared-grant
use Rattle.apply_inserts.specs.Inserts.{stays_says, stays_at, StaysAt}

-- A place where a run may grow a subtree.
pub record Grows (new : ℕ) (writes : Bool) (from : ℕ) (s : Bytes) (p : place.Place)
    (leaf : option.Option declared-grant.Grant) (part : Bytes) : Type 0 where
  pub stored : Stored s
  pub starts : Starts writes (store_of s).slots from
  pub number : 1 ≤ new
  pub proper : Proper p
  pub run : Run (place_of p) part
  pub stays : StaysAt (place_of p) (stays_at (place_of p) (stays_says leaf)) (asks part)
