-- What the helpers of the figures promise each other. No public promise reaches this file. Assumes nothing.
use Rattle.std.specs.Prelude.{ℕ, suc, ◌*◌, ◌-◌, ◌≡◌, true, List, map, length}
use Rattle.terms.specs.Bits.{Bytes}
use Rattle.terms.specs.Fields.{flat}
use Rattle.layout.specs.Stores.{store_of}
use Rattle.promises.specs.Calls.{SoundBytes}
use Rattle.quarter.specs.Figures.{Figures, figures_bytes, range_right, figures_size, versions, records_over}
use Rattle.quarter.specs.Living.{figures_over}

-- The numbers of the versions, one after the other.
abbrev pub each_bytes : List Figures → Bytes
each_bytes fs = flat (map figures_bytes fs)

-- A sound store, a right range, and a part with room for its numbers.
pub record Range (first last : ℕ) (s part : Bytes) : Type 0 where
  pub sound : SoundBytes s
  pub right : range_right (store_of s) first last ≡ true
  pub long : length part ≡ figures_size * (suc last - first)

-- The sum of records, and the part filled.
pub record Writes (first last : ℕ) (s : Bytes) (r : ℕ) (part : Bytes) : Type 0 where
  pub count : r ≡ records_over (store_of s) (versions first last)
  pub bytes : part ≡ each_bytes (figures_over (store_of s) (versions first last))
