-- Document 01, 'The tree of a set of grants': each child is handed its own run of the batch, uncopied. The run at a
-- place is a part of the batch, the records whose keys begin with the place; bit 0 means left, 1 right. Assumes
-- nothing.
use Rattle.std.specs.Prelude.{ℕ, ◌*◌, ◌<◌, ◌≤◌, ◌%◌, ◌≡◌, Bool, true, false, List, length, take, drop}
use Rattle.std.specs.Bool.{beq}
use Rattle.terms.specs.Bits.{Bytes, Byte, All, Side, Place, left, bit, begins, filter}
use Rattle.terms.specs.Records.{Ask, ask_key}
use Rattle.meaning.specs.Calls.{ascending}
use Rattle.batch.specs.Sizes.{record_size, most_records}
use Rattle.batch.specs.Batch.{ask_form, count, records_of, asks}

-- Whole records in form, 1,024 at most, keys strictly ascending, each key begins with the place.
pub record Run (p : Place) (run : Bytes) : Type 0 where
  pub bytes : All Byte run
  pub whole : length run % record_size ≡ 0
  pub few : count run ≤ most_records
  pub form : All (λ x. ask_form x ≡ true) (records_of run)
  pub order : ascending (asks run) ≡ true
  pub under : All (λ a. begins p (ask_key a) ≡ true) (asks run)

-- A run at some place of i bits, with a bit of the keys left to tell its records apart.
pub record RunAt (i : ℕ) (run : Bytes) : Type 0 where
  pub place : Place
  pub bits : length place ≡ i
  pub short : i < 256
  pub holds : Run place run

-- Bit i of an ask's key is on this side.
abbrev pub on_side : Side → ℕ → Ask → Bool
on_side b i a = beq b (bit i (ask_key a))

-- How many records of a run go left at bit i.
unfoldable pub lefts : ℕ → Bytes → ℕ
lefts i run = length (filter (on_side left i) (asks run))

-- The part of a list before an index, or from it on.
abbrev pub half : {A : Type 0} → Side → ℕ → List A → List A
half false m xs = take m xs
half true m xs = drop m xs

-- The part of a run that goes to the left child, or to the right.
unfoldable pub run_of : Side → ℕ → Bytes → Bytes
run_of b i run = half b (record_size * lefts i run) run
