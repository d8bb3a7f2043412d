-- What is tested of a record by itself, in the words of the test of local's specs. No public promise reaches this file.
-- Assumes nothing.
use Rattle.std.specs.Prelude.{ℕ, ◌≤◌, ◌≡◌, Bool, ◌||◌, List, [], ◌∷◌, eqb, leb, ltb}
use Rattle.terms.specs.declared.Form.{Form}
use Rattle.terms.specs.Bits.{Bytes, Side, longer}
use Rattle.terms.specs.Fields.{all_of}
use Rattle.terms.specs.Records.{Body, Tally, Record}
use Rattle.meaning.specs.Store.{find}
use Rattle.local.specs.Test.{holders, life_test, is_found}
use Rattle.place.specs.declared.Place as declared-place
use Rattle.place.specs.Place.{place_of, Proper}
use Rattle.layout.specs.Slots.{record_of}
use Rattle.layout.specs.Stores.{store_in}
use Rattle.check_kin.specs.declared.Kept as declared-kept
use Rattle.check_kin.specs.Kin.{Keeps}
use Rattle.check_alone.specs.declared.Head as declared

-- The record with this head, body and counts.
abbrev pub record_on : declared.Head → Body → Tally → Record
record_on h o tl = record_of (place_of h.place) h.version h.retired o tl

-- The head of a record in form, in a store that keeps these versions.
pub record Headed (fm : Form) (s : Bytes) (k : declared-kept.Kept) (h : declared.Head) : Type 0 where
  pub keeps : Keeps fm s k
  pub proper : Proper h.place
  pub version : 1 ≤ h.version

-- Retired-since is 0, or above the version, above oldest and at most latest.
unfoldable pub life_right : declared-kept.Kept → ℕ → ℕ → Bool
life_right k version n = eqb n 0 || all_of (ltb version n ∷ ltb k.oldest n ∷ leb n k.latest ∷ [])

-- The child of a version on a side is missing or found.
unfoldable pub found_on : Form → Bytes → declared-place.Place → Side → ℕ → Bool
found_on fm s p b v = eqb v 0 || is_found (find v (longer b (place_of p)) (store_in fm s).slots)

-- A record's version and life are right, and one slot alone holds its node.
abbrev pub alone_tests : Form → Bytes → declared.Head → Body → Tally → List Bool
alone_tests fm s h o tl =
    leb h.version (store_in fm s).latest
    ∷ life_test (store_in fm s) (record_on h o tl)
    ∷ eqb (holders (record_on h o tl) (store_in fm s).slots) 1
    ∷ []

abbrev pub AloneSays : Form → Bytes → declared.Head → Bool → Type 0
AloneSays fm s h t = (o : Body) (tl : Tally) → t ≡ all_of (alone_tests fm s h o tl)
