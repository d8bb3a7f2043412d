-- Document 01, 'Bytes', presence proof, and 'Reading and proving': the steps of a path whose inner nodes are known by
-- their slots. Siblings' hashes are taken as stored. Assumes nothing.
use Rattle.std.specs.Prelude.{ℕ, zero, suc, ◌<◌, not, List, [], ◌∷◌, get_or}
use Rattle.terms.specs.declared.Form.TheVariants.{Counted as counted}
use Rattle.terms.specs.Bits.{Bytes, Side, left, Place, digit}
use Rattle.terms.specs.Records.{Step, Presence}
use Rattle.meaning.specs.Proving.{step, presence_of}
use Rattle.place.specs.Place.{place_of, Proper}
use Rattle.layout.specs.Slots.{key_in, value_inside}
use Rattle.layout.specs.Stores.{slot_in, SlotWithin}
use Rattle.read_step.specs.Walk.{kid_in}
use Rattle.prove_paths.specs.declared.Path as declared

-- A step is a side and the sibling's hash.
unfoldable pub step_bytes : Step → Bytes
step_bytes s = digit s.side ∷ s.sibling

-- The step up from the child on side b of the inner node in slot i.
unfoldable pub step_at : Bytes → ℕ → Side → Step
step_at s i b = step b (kid_in i s (not b)).hash

-- The steps from depth n upwards, where slots has the slot of the inner node at each depth, and p the side taken there.
abbrev pub steps_of : Bytes → List ℕ → Place → ℕ → List Step
steps_of s slots p zero = []
steps_of s slots p (suc n) = step_at s (get_or slots n 0) (get_or p n left) ∷ steps_of s slots p n

unfoldable pub path_steps : Bytes → declared.Path → List Step
path_steps s p = steps_of s p.slots (place_of p.place) p.place.count

-- The presence proof of the leaf at the end of a path.
unfoldable pub presence_at : Bytes → declared.Path → Presence
presence_at s p = presence_of (key_in (slot_in counted p.at s)) (value_inside (slot_in counted p.at s)) (path_steps s p)

-- A path within a store: each slot on it is one of the store's, and its place is proper.
pub record PathIn (s : Bytes) (p : declared.Path) : Type 0 where
  pub proper : Proper p.place
  pub above : (j : ℕ) → j < p.place.count → SlotWithin counted (get_or p.slots j 0) s
  pub end : SlotWithin counted p.at s
