-- Document 02, request 2026-08, over bytes: the records of a tree entered in the target. No public promise reaches this
-- file. Assumes nothing.
use Rattle.std.specs.Prelude.{ℕ, ◌-◌, ◌≡◌, true, length, Some, None}
use Rattle.terms.specs.declared.Form.TheVariants.{Counted as counted}
use Rattle.terms.specs.Bits.{Bytes, Place}
use Rattle.terms.specs.Records.{Record, used}
use Rattle.place.specs.declared.Place as place
use Rattle.place.specs.Place.{place_of, Proper}
use Rattle.layout.specs.Headers.{size_right}
use Rattle.layout.specs.Stores.{store_of, store_bytes, slot_no, StoreForm, Has}
use Rattle.std.specs.declared.option.Option as option
use Rattle.rescue_rules.specs.Entering.{Put, Entered}
use Rattle.rescue_look.specs.Look.{LowestIn}

-- A source of the right size, and a target of the same, which is in form.
pub record Target (s t : Bytes) : Type 0 where
  pub size : size_right counted (length s) ≡ true
  pub equal : length t ≡ length s
  pub bytes : t ≡ store_bytes (store_of t)
  pub form : StoreForm (store_of t)

-- What was found is a record of the source.
abbrev pub Held : Bytes → option.Option ℕ → Type 0
Held s (Some i) = Has counted s i × ((r : Record) × (slot_no counted i s ≡ used r))
Held s None = Unit {0}

-- What was found is put into its slot of the target, retired since n.
pub record Puts (s : Bytes) (f : option.Option ℕ) (n : ℕ) (t u : Bytes) : Type 0 where
  pub target : Target s u
  pub puts : (v : ℕ) (p : Place) → LowestIn (store_of s).slots v p f → Put (store_of s).slots n v p (store_of t).slots
      (store_of u).slots

-- A place of a source with its target.
pub record Entering (s t : Bytes) (p : place.Place) : Type 0 where
  pub target : Target s t
  pub proper : Proper p

-- The nodes met from a place on are entered, retired since n.
pub record Enters (s : Bytes) (n : ℕ) (p : place.Place) (a b : ℕ) (t u : Bytes) : Type 0 where
  pub target : Target s u
  pub entered : Entered (256 - p.count) (store_of s).slots n a b (place_of p) (store_of t).slots (store_of u).slots
