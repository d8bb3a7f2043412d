-- Document 02, request 2026-14: the versions of a block counted together. No public promise reaches this file.
-- Assumes nothing.
use Rattle.std.specs.Prelude.{ℕ, zero, suc, ◌+◌, ◌*◌, ◌<◌, ◌≤◌, ◌≡◌, List, length, get_or}
use Rattle.terms.specs.declared.Form.TheVariants.{Counted as counted}
use Rattle.terms.specs.Bits.{Bytes}
use Rattle.terms.specs.Records.{Slot}
use Rattle.layout.specs.Sizes.{room_of}
use Rattle.layout.specs.Stores.{store_of, slot_no}
use Rattle.quarter.specs.Figures.{Figures}
use Rattle.quarter.specs.Living.{slot_adds, living_figures}
use Rattle.figures_count.specs.Count.{figures_say}
use Rattle.figures_count.specs.declared.Figures as declared
use Rattle.figures_block.specs.declared.Block as block

-- What the first n slots of a list add at version v, one after the other.
abbrev pub list_adds : Bytes → List ℕ → ℕ → ℕ → Figures → Figures
list_adds s list v zero f = f
list_adds s list v (suc n) f = slot_adds v (slot_no counted (get_or list n 0) s) (list_adds s list v n f)

-- Some slots split for the versions from first to last: at each of them the numbers with what the listed slots add are
-- those of all; and they are few.
pub record Split (s : Bytes) (list : List ℕ) (first last listed : ℕ) (all : declared.Figures) (xs : List Slot) :
    Type 0 where
  pub told : (v : ℕ) → first ≤ v → v ≤ last → list_adds s list v listed (figures_say all) ≡ living_figures v xs
  pub inside : (j : ℕ) → j < listed → get_or list j 0 < room_of counted (length s)
  pub few : all.leaves + all.inners + listed ≤ length xs
  pub sum : all.sum + 256 * listed ≤ 256 * length xs

-- A block is right: it is a split of all slots.
abbrev pub Right : Bytes → List ℕ → block.Block → Type 0
Right s list b = Split s list b.first b.last b.listed b.all (store_of s).slots

-- It is right whatever the store: it has no version.
abbrev pub None : block.Block → Type 0
None b = (s : Bytes) (list : List ℕ) → Right s list b

-- The four numbers of version v, with no more nodes than slots.
pub record Counts (s : Bytes) (v : ℕ) (f : declared.Figures) : Type 0 where
  pub told : figures_say f ≡ living_figures v (store_of s).slots
  pub few : f.leaves + f.inners ≤ 16384
