-- What the passes leave where they find nothing wrong. Assumes nothing.
use Rattle.std.specs.Prelude.{ℕ, ◌≡◌, Option, Some, None}
use Rattle.terms.specs.Bits.{Bytes, Side}
use Rattle.terms.specs.Records.{Record, Store}
use Rattle.meaning.specs.Sound.{At}
use Rattle.check_seen.specs.Seen.{Parted, Tied, Covered}

-- Where no slot is named, all is fine; of a suspect nothing is known.
abbrev pub Sure : Option ℕ → Type 0 → Type 0
Sure None a = a
Sure (Some i) a = Unit {0}

-- No two records share version and place, and a root ends before a later one begins.
pub record Alone (st : Store) : Type 0 where
  pub unique : (i j : ℕ) (r q : Record) → At st i r → At st j q → r.version ≡ q.version → r.place ≡ q.place → i ≡ j
  pub parted : Parted st

-- Each record is tied to the children that it names, and its life is covered.
pub record Linked (leaf_hash inner_hash : Bytes → Bytes → Bytes) (st : Store) : Type 0 where
  pub tied : (i : ℕ) (r : Record) → At st i r → (b : Side) → Tied leaf_hash inner_hash st r b
  pub covered : (i : ℕ) (r : Record) → At st i r → Covered st r
