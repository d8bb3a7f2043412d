-- Document 02, 2026-07: what each case of a search's answer says. Assumes nothing.
use Rattle.std.specs.Prelude.{ℕ, ◌<◌, ◌≡◌, Bool, true, false, List, length, get_or, Some, None}
use Rattle.std.proofs.Math.Option.{Option, none, some}
use Rattle.terms.specs.declared.Form.TheVariants.{Counted as counted}
use Rattle.terms.specs.Bits.{Bytes}
use Rattle.terms.specs.Records.{Record, Slot, free, used, spoiled}
use Rattle.meaning.specs.Sight.{Sight, matches, nothing, spoilt, lowest_spoilt, sighted}
use Rattle.layout.specs.Stores.{store_of, slot_no, Has}
use Rattle.lookup.specs.Lookup.{Located}
use Rattle.std.specs.declared.option.Option as option
use Rattle.sights.specs.declared.Sight as declared
use Rattle.sights.specs.declared.Sight.TheVariants as sight

-- A slot is neither free nor in form, and its bytes pass a test.
abbrev pub spoilt_by : (Bytes → Bool) → Slot → Bool
spoilt_by test free = false
spoilt_by test (used r) = false
spoilt_by test (spoiled x) = test x

abbrev pub is_spoilt : Slot → Bool
is_spoilt x = spoilt_by (λ y. true) x

-- What a search for the lowest spoilt slot that passes a test found.
abbrev pub SpoiltIn : (Bytes → Bool) → List Slot → option.Option ℕ → Type 0
SpoiltIn test s (Some i) = (i < length s) × (lowest_spoilt test 0 s ≡ some i)
SpoiltIn test s None = lowest_spoilt test 0 s ≡ none

-- Of each slot of a store the answer is whether the slot is spoilt and its bytes pass a test.
abbrev pub Tests : Bytes → (ℕ → Bool → Type 0) → (Bytes → Bool) → Type 0
Tests s answers test = (i : ℕ) (r : Bool) → Has counted s i → answers i r → r ≡ spoilt_by test (slot_no counted i s)

-- What is sighted, by the number of a slot that holds the record, or that is spoilt.
abbrev pub Sighted : List Slot → Sight → declared.Sight → Type 0
Sighted s o (sight.Matches i) = (i < length s) × ((r : Record) × (get_or s i free ≡ used r) × (o ≡ matches r))
Sighted s o sight.Nothing = o ≡ nothing
Sighted s o (sight.Spoilt i) = (i < length s) × (o ≡ spoilt i)

-- What is sighted by what a search found and by a test's answers: whichever record the search sought, and whichever
-- fields the test looks for.
abbrev pub SightedBy : Bytes → option.Option ℕ → (ℕ → Bool → Type 0) → declared.Sight → Type 0
SightedBy s found answers r =
    (o : Option Record) (test : Bytes → Bool) → Located (store_of s).slots o found → Tests s answers test
    → Sighted (store_of s).slots (sighted o (lowest_spoilt test 0 (store_of s).slots)) r
