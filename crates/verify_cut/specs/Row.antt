-- What the loops over a row of records know. Assumes nothing.
use Rattle.std.specs.Prelude.{ℕ, ◌+◌, ◌*◌, ◌-◌, ◌<◌, ◌≤◌, ◌≡◌, Bool, true, false, List, length, get_or, drop, Some, None}
use Rattle.std.specs.declared.option.Option as option
use Rattle.terms.specs.Bits.{Bytes}
use Rattle.sha256_eight.specs.Each.{Each}
use Rattle.verify_lanes.specs.Lanes.{AllLie, LeadsAt}
use Rattle.verify_given.specs.Given.{Leading}
use Rattle.verify_rows.specs.Reading.{own_length, begins, cuts_into, start_of, piece_at}

-- Where the record at a ends, if one begins there.
abbrev pub PieceEnd : Bytes → ℕ → option.Option ℕ → Type 0
PieceEnd p a (Some e) = (begins (drop a p) ≡ true) × (e ≡ a + own_length (drop a p)) × (e ≤ length p)
PieceEnd p a None = begins (drop a p) ≡ false

-- The record at s has its first path at index d of the places `at`, of which there are m: where it is known which of
-- these lead to a root, it is known which of its own do.
pub record Planned (p : Bytes) (at : List ℕ) (m s d : ℕ) : Type 0 where
  pub low : d ≤ 510
  pub leading : (root : Bytes) (good : List Bool) → Each m (LeadsAt root p at) false good →
      Leading root (piece_at p s) (get_or good d false) (get_or good (d + 1) false)

-- The first i records of n are cut off, up to a, and have m paths.
pub record Plan (p : Bytes) (n : ℕ) (at index : List ℕ) (i m a : ℕ) : Type 0 where
  pub upto : i ≤ n
  pub few : m ≤ 2 * i
  pub start : a ≡ start_of p i
  pub within : a ≤ length p
  pub cut : cuts_into (n - i) (drop a p) ≡ cuts_into n p
  pub places : length at ≡ 512
  pub indices : length index ≡ 256
  pub lie : AllLie p m at
  pub planned : (j : ℕ) → j < i → Planned p at m (start_of p j) (get_or index j 0)

-- The bytes are n records, which have m paths; or they aren't.
abbrev pub GatheredAs : Bytes → ℕ → List ℕ → List ℕ → option.Option ℕ → Type 0
GatheredAs p n at index (Some m) = (cuts_into n p ≡ true) × Plan p n at index n m (start_of p n)
GatheredAs p n at index None = cuts_into n p ≡ false

-- It is known of the paths of each of n records whether they lead to the root.
pub record KnownAt (root p : Bytes) (good : List Bool) (s d : ℕ) : Type 0 where
  pub low : d ≤ 510
  pub leading : Leading root (piece_at p s) (get_or good d false) (get_or good (d + 1) false)

abbrev pub Known : Bytes → Bytes → ℕ → List ℕ → List Bool → Type 0
Known root p n index good = (j : ℕ) → j < n → KnownAt root p good (start_of p j) (get_or index j 0)
