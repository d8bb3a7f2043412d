-- Document 02, request 2026-08, over the bytes of a source: two records at one place beside each other. No public
-- promise reaches this file. Assumes nothing.
use Rattle.std.specs.Prelude.{ℕ, ◌≡◌, true, false, not, length, Some, None}
use Rattle.terms.specs.declared.Form.TheVariants.{Counted as counted}
use Rattle.terms.specs.Bits.{Bytes, Side, Place}
use Rattle.terms.specs.Records.{count_on}
use Rattle.meaning.specs.Store.{find}
use Rattle.nodehash.specs.Node.{leaf_hash, inner_hash}
use Rattle.place.specs.declared.Place as place
use Rattle.place.specs.Place.{place_of, Proper}
use Rattle.layout.specs.Headers.{size_right}
use Rattle.layout.specs.Slots.{is_leaf, counts_in, kid_on}
use Rattle.layout.specs.Stores.{slot_in, store_of, Has}
use Rattle.std.specs.declared.option.Option as option
use Rattle.rescue_rules.specs.Joining.{record_right}
use Rattle.rescue_look.specs.Look.{LowestIn, tied_at}

-- A search for a node in a source of the right size.
pub record Sought (s : Bytes) (v : ℕ) (p : place.Place) (r : option.Option ℕ) : Type 0 where
  pub size : size_right counted (length s) ≡ true
  pub proper : Proper p
  pub lowest : LowestIn (store_of s).slots v (place_of p) r

-- Slots i and j say the same of the child on a side, and slot i names a child on the other.
pub record Alike (s : Bytes) (i j : ℕ) (b : Side) : Type 0 where
  pub version : (kid_on b (slot_in counted i s)).version ≡ (kid_on b (slot_in counted j s)).version
  pub hash : (kid_on b (slot_in counted i s)).hash ≡ (kid_on b (slot_in counted j s)).hash
  pub count : count_on b (counts_in (slot_in counted i s)) ≡ count_on b (counts_in (slot_in counted j s))
  pub other : (kid_on (not b) (slot_in counted i s)).version ≡ 0 → ⊥

-- An inner record was found that says the same as slot i.
abbrev pub Told : Bytes → ℕ → Side → option.Option ℕ → Type 0
Told s i b (Some j) = (is_leaf (slot_in counted j s) ≡ false) × Alike s i j b
Told s i b None = ⊥

-- Where an inner record was found, its child on a side, at a place, is tied.
abbrev pub Tied : Bytes → Side → Place → option.Option ℕ → Type 0
Tied s b p (Some j) = Has counted s j × (is_leaf (slot_in counted j s) ≡ false → tied_at s j b p ≡ true)
Tied s b p None = Unit {0}

-- A search for a node of some version at a place found a record that is right, or there is no such node to find.
pub record Beside (s : Bytes) (p : place.Place) (f : option.Option ℕ) : Type 0 where
  pub version : ℕ
  pub lowest : LowestIn (store_of s).slots version (place_of p) f
  pub right : record_right leaf_hash inner_hash (store_of s).slots version (place_of p)
      (find version (place_of p) (store_of s).slots)
      ≡ true
