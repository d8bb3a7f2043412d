-- Document 02, request 2026-08, over the bytes of a source: what a search for a node found. No public promise reaches
-- this file. Assumes nothing.
use Rattle.std.specs.Prelude.{ℕ, ◌<◌, ◌≡◌, Bool, not, ◌&&◌, List, length, eqb, Some, None}
use Rattle.std.proofs.Math.Option.{none}
use Rattle.terms.specs.declared.Form.TheVariants.{Counted as counted}
use Rattle.terms.specs.Bits.{Bytes, Side, Place}
use Rattle.terms.specs.Records.{Record, Slot, count_on}
use Rattle.meaning.specs.Store.{find}
use Rattle.meaning.specs.Local.{weighed}
use Rattle.nodehash.specs.Node.{leaf_hash, inner_hash}
use Rattle.layout.specs.Slots.{counts_in, kid_on}
use Rattle.layout.specs.Stores.{slot_in, store_of, Has}
use Rattle.std.specs.declared.option.Option as option
use Rattle.rescue_rules.specs.Joining.{kid_of, linked}
use Rattle.rescue_rules.specs.Entering.{LowestAt}

-- What a search for a node found: its lowest slot, or nothing.
abbrev pub LowestIn : List Slot → ℕ → Place → option.Option ℕ → Type 0
LowestIn s v p (Some i) = (i < length s) × ((r : Record) × LowestAt s v p i r)
LowestIn s v p None = find v p s ≡ none

-- What is found is in a slot of the source.
abbrev pub Inside : Bytes → option.Option ℕ → Type 0
Inside s (Some i) = Has counted s i
Inside s None = Unit {0}

-- The version of the child on a side of whatever node was sought.
abbrev pub KidSays : Bytes → option.Option ℕ → Side → ℕ → Type 0
KidSays s f b r = (v : ℕ) (p : Place) → LowestIn (store_of s).slots v p f → r ≡ kid_of b (find v p (store_of s).slots)

-- Whether the child on a side of the inner record in slot i, sought at a place, is linked.
unfoldable pub linked_at : Bytes → ℕ → Side → Place → Bool
linked_at s i b p =
    linked leaf_hash inner_hash (find (kid_on b (slot_in counted i s)).version p (store_of s).slots)
    (kid_on b (slot_in counted i s)) (kid_on (not b) (slot_in counted i s))

-- Whether the count on a side is that of the leaves at whatever child was sought.
abbrev pub WeighsSay : Bytes → ℕ → Side → option.Option ℕ → Bool → Type 0
WeighsSay s i b f r =
    (v : ℕ) (p : Place) → LowestIn (store_of s).slots v p f → r ≡ eqb (count_on b (counts_in (slot_in counted i s)))
    (weighed (find v p (store_of s).slots))

unfoldable pub weighs_at : Bytes → ℕ → Side → Place → Bool
weighs_at s i b p = eqb (count_on b (counts_in (slot_in counted i s)))
    (weighed (find (kid_on b (slot_in counted i s)).version p (store_of s).slots))

-- It is linked, and its count is right.
unfoldable pub tied_at : Bytes → ℕ → Side → Place → Bool
tied_at s i b p = weighs_at s i b p && linked_at s i b p
