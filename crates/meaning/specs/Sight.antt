-- Document 02, 2026-07, and 2026-13 for roots: what finding a node tells apart, for every store. Assumes nothing.
use Rattle.std.specs.Prelude.{ℕ, suc, Bool, cond, ◌&&◌, not, List, [], ◌∷◌, length, eqb, leb}
use Rattle.std.proofs.Math.Option.{Option, none, some}
use Rattle.terms.specs.Bits.{Bytes, Place, pack, same_bytes}
use Rattle.terms.specs.Fields.{all_zero, all_of}
use Rattle.terms.specs.Heads.{count_in, bits_in, version_in, since_in}
use Rattle.terms.specs.Records.{Record, Slot, free, used, spoiled, Store}
use Rattle.meaning.specs.Store.{find, root_of}

-- A slot in form matches, with this record; no slot matches; or no slot in form matches, but a used slot's fields
-- agree, and this is the lowest such slot.
pub data Sight : Type 0 where
  matches : Record → Sight
  nothing : Sight
  spoilt : ℕ → Sight

-- The version, bit count and bits fields of a slot's bytes agree.
unfoldable pub agrees : ℕ → Place → Bytes → Bool
agrees v p x = all_of (eqb (version_in x) v ∷ eqb (count_in x) (length p) ∷ same_bytes (bits_in x) (pack 32 p) ∷ [])

-- A lifetime covers a version by its fields: the version field isn't above it, and retired-since is 0 or above it.
unfoldable pub lives_by : ℕ → Bytes → Bool
lives_by v x = leb (version_in x) v && not (leb 1 (since_in x) && leb (since_in x) v)

-- A root agrees by empty place and such a lifetime (2026-13).
unfoldable pub agrees_root : ℕ → Bytes → Bool
agrees_root v x = all_of (eqb (count_in x) 0 ∷ all_zero (bits_in x) ∷ lives_by v x ∷ [])

-- The lowest slot neither free nor in form whose bytes pass a test, where the list begins with slot i.
abbrev pub lowest_spoilt : (Bytes → Bool) → ℕ → List Slot → Option ℕ
lowest_spoilt test i [] = none
lowest_spoilt test i (free ∷ s) = lowest_spoilt test (suc i) s
lowest_spoilt test i (used r ∷ s) = lowest_spoilt test (suc i) s
lowest_spoilt test i (spoiled x ∷ s) = cond (test x) (some i) (lowest_spoilt test (suc i) s)

-- A slot in form that matches wins over any spoilt one, lower or not.
abbrev pub sighted : Option Record → Option ℕ → Sight
sighted (some r) o = matches r
sighted none none = nothing
sighted none (some i) = spoilt i

-- How a read finds: the root of a version, and a node by its version and place.
pub record Looking : Type 0 where
  pub root : ℕ → Sight
  pub node : ℕ → Place → Sight

-- By looking at every slot.
unfoldable pub root_sight : Store → ℕ → Sight
root_sight st v = sighted (root_of st v) (lowest_spoilt (agrees_root v) 0 st.slots)

unfoldable pub node_sight : Store → ℕ → Place → Sight
node_sight st v p = sighted (find v p st.slots) (lowest_spoilt (agrees v p) 0 st.slots)

abbrev pub scan : Store → Looking
scan st = record { root = root_sight st; node = node_sight st }
