-- Parts of the tables, as far as the definitions of `meaning` test them, and a row by its number. Assumes nothing.
use Prim.Native.Nat.{ℕ, ◌<◌}
use mathlib.Core.Path.{◌≡◌}
use mathlib.Core.Bool.{cond}
use mathlib.Core.List.{List, [], ◌∷◌, map}
use lib.ListN.{length, drop}
use lib.Dec.{eqb}
use Rattle.terms.specs.declared.Form.TheVariants.{Counted as counted}
use Rattle.terms.specs.Bits.{Bytes}
use Rattle.terms.specs.Records.{Proof}
use Rattle.meaning.specs.Sound.{Kept}
use Rattle.meaning.specs.Calls.{accepted}
use Rattle.meaning.specs.Proving.{proof}
use Rattle.palette_rules.specs.Palette.{length_together}
use Rattle.ways.specs.Ways.{EmptyVersion}
use Rattle.layout.specs.Stores.{store_of}
use Rattle.refusals.specs.Exactly.{Table}
use Rattle.refusals.specs.Tables.{HasSlots, WrongSize, tests_of, apply_rows, prune_rows, at_rows, changes_rows, finding_rows, figures_rows}

-- what deserves a number, by a table
abbrev pub Row : ℕ → Table → Type 0
Row n [] = ⊥
Row n (row ∷ rows) = cond (eqb row.0 n) row.1 (Row n rows)

-- 1 and 8
abbrev pub WrongLength : Bytes → Type 0
WrongLength s = WrongSize (HasSlots counted s)

abbrev pub NotKept : Bytes → ℕ → Type 0
NotKept s v = Kept (store_of s) v → ⊥

-- after full soundness
abbrev pub batch_rows : ℕ → Bytes → Bytes → Table
batch_rows number batch s = drop 3 (apply_rows number batch s)

abbrev pub version_rows : Bytes → ℕ → Table
version_rows s v = drop 3 (prune_rows v s)

abbrev pub comparison_rows : Bytes → ℕ → ℕ → ℕ → Bytes → Table
comparison_rows s first second limit room = drop 3 (changes_rows s first second limit room)

abbrev pub range_rows : Bytes → ℕ → ℕ → Bytes → Table
range_rows s first last room = drop 3 (figures_rows s first last room)

abbrev pub found_rows : Bytes → ℕ → Bytes → Bytes → Table
found_rows s v k x = drop 4 (finding_rows s v k x)

-- what the reads test before they look for records, after the header
abbrev pub placing_rows : Bytes → ℕ → ℕ → Table
placing_rows s v i = tests_of (drop 2 (at_rows s v i))

abbrev pub proving_rows : Bytes → ℕ → Table
proving_rows s v = (8, NotKept s v) ∷ (14, EmptyVersion (store_of s) v) ∷ []

abbrev pub asking_rows : Bytes → ℕ → List Bytes → Table
asking_rows s v keys = (8, NotKept s v) ∷ (14, EmptyVersion (store_of s) v × (keys ≡ [] → ⊥)) ∷ []

-- 9 of a palette
abbrev pub TooLongTogether : Bytes → ℕ → List Bytes → Bytes → Type 0
TooLongTogether s v keys room = (ps : List Proof) × (map (proof (store_of s) v) keys ≡ map accepted ps) × (length room < length_together ps)
