-- What it is for a call to answer exactly by a table of refusals. Assumes nothing.
use Rattle.std.specs.Prelude.{ℕ, ◌+◌, ◌/◌, ◌%◌, ◌≡◌, ◌↔◌, ◌⊎◌, List, [], ◌∷◌}

-- A table: numbers of refusal, each with what deserves it, in the order of the checks.
abbrev pub Table : Type 1
Table = List (ℕ × Type 0)

-- The answer is 0 or a number of the table.
abbrev pub Listed : Table → ℕ → Type 0
Listed [] r = r ≡ 0
Listed (row ∷ rows) r = (r ≡ row.0) ⊎ Listed rows r

-- It is n exactly if row n holds and no row before it does (`none` says that), and 0 exactly if none does.
abbrev pub EachAfter : Type 0 → Table → ℕ → Type 0
EachAfter none [] r = (r ≡ 0) ↔ none
EachAfter none (row ∷ rows) r = ((r ≡ row.0) ↔ (none × row.1)) × EachAfter (none × (row.1 → ⊥)) rows r

pub record Exactly (rows : Table) (r : ℕ) : Type 0 where
  pub listed : Listed rows r
  pub each : EachAfter (Unit {0}) rows r

-- No row of a table holds.
abbrev pub NoneOf : Table → Type 0
NoneOf [] = Unit {0}
NoneOf (row ∷ rows) = (row.1 → ⊥) × NoneOf rows

-- A read's answer in 64 bits (2026-07): the number of refusal in the low half; in the high one a spoilt slot + 1, or 0.
unfoldable pub low : ℕ → ℕ
low r = r % 4294967296

-- The slot that it names is exactly the one that deserves it, and it names none exactly if none does.
pub record Names (deserves : ℕ → Type 0) (r : ℕ) : Type 0 where
  pub slot : (i : ℕ) → (r / 4294967296 ≡ i + 1) ↔ deserves i
  pub none : (r / 4294967296 ≡ 0) ↔ ((i : ℕ) → deserves i → ⊥)
