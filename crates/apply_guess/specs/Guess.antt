-- Document 01, 'Reading and proving', 'a slot matches a version and place', where a node is in one slot at most.
-- Assumes nothing.
use Rattle.std.specs.Prelude.{ℕ}
use Rattle.terms.specs.Bits.{Bytes}
use Rattle.place.specs.declared.Place as place
use Rattle.place.specs.Place.{place_of, Proper}
use Rattle.layout.specs.Stores.{store_of}
use Rattle.apply_place.specs.Placing.{Stored, Single}

-- The node (v, p) is in one slot at most.
pub record Once (s : Bytes) (v : ℕ) (p : place.Place) : Type 0 where
  pub stored : Stored s
  pub proper : Proper p
  pub single : Single v (place_of p) (store_of s).slots
