-- Request 2026-12: what a proof says, held against the grants of a version. No public promise reaches this file.
-- Assumes nothing.
use Rattle.std.specs.Prelude.{ℕ, Bool, List, ◌++◌}
use Rattle.terms.specs.Bits.{Bytes}
use Rattle.terms.specs.Records.{Grant, Presence, Absence}
use Rattle.meaning.specs.Tree.{grants_in}
use Rattle.meaning.specs.Store.{tree_at_version}
use Rattle.meaning.specs.Sound.{Kept}
use Rattle.meaning.specs.Reading.{present, answer_of}
use Rattle.layout.specs.Stores.{store_of}
use Rattle.promises.specs.Calls.{SoundBytes}
use Rattle.forgery.specs.Finding.{same_verdict, neighbour_says, all_true}

-- The bytes hold a sound store that keeps a version.
pub record SoundVersion (s : Bytes) (v : ℕ) : Type 0 where
  pub sound : SoundBytes s
  pub kept : Kept (store_of s) v

-- The grants of that version.
abbrev pub grants_at : Bytes → ℕ → List Grant
grants_at s v = grants_in (tree_at_version (store_of s) v)

-- The grants have the leaf that a path shows.
unfoldable pub leaf_true : List Grant → Presence → Bool
leaf_true gs p = same_verdict (answer_of p.key gs) (present p.value)

-- They have each neighbour.
unfoldable pub neighbours_true : List Grant → Absence → Bool
neighbours_true gs a = all_true gs (neighbour_says a.leftward ++ neighbour_says a.rightward)
