-- Document 01, 'The tree of a set of grants': the step at a leaf. What the values of the code say, case by case.
-- Assumes nothing.
use Rattle.std.specs.declared.option.Option as option
use Rattle.std.specs.Prelude.{Some, None, ℕ, ◌≤◌, ◌≡◌, Bool, true, false, List, [], ◌∷◌}
use Rattle.terms.specs.Bits.{Bytes, begins}
use Rattle.terms.specs.Records.{Grant}
use Rattle.hash.specs.declared.Hash.{Hash}
use Rattle.hash.specs.Hash.{hash_bytes}
use Rattle.place.specs.declared.Place as place
use Rattle.place.specs.Place.{place_of, Proper}
use Rattle.batch.specs.Runs.{Run}
use Rattle.layout.specs.Stores.{store_of}
use Rattle.apply_place.specs.Placing.{Stored}
use Rattle.apply_place.specs.Reach.{Starts}
use Rattle.apply_inserts.specs.declared.Grant as declared-grant
use Rattle.apply_alone.specs.declared.Own as declared
use Rattle.apply_alone.specs.declared.Own.TheVariants.{Nothing, Insert, Delete}

-- There is a grant.
abbrev pub is_more : List Grant → Bool
is_more [] = false
is_more (g ∷ gs) = true

-- A leaf stays beside inserts where nothing is asked for its key.
abbrev pub staying_says : declared.Own → Hash → Hash → option.Option declared-grant.Grant
staying_says Nothing k x = Some (record { key = k; value = x })
staying_says (Insert y) k x = None
staying_says Delete k x = None

-- A leaf where a run is to be applied.
pub record AtLeaf (new : ℕ) (writes : Bool) (from : ℕ) (s : Bytes) (p : place.Place) (key : Hash) (part : Bytes) :
    Type 0 where
  pub stored : Stored s
  pub starts : Starts writes (store_of s).slots from
  pub number : 1 ≤ new
  pub proper : Proper p
  pub run : Run (place_of p) part
  pub begun : begins (place_of p) (hash_bytes key) ≡ true
