-- Document 02, request 2026-08, over the bytes of a source: whether a version joins the next one's tree. No public
-- promise reaches this file. Assumes nothing.
use Rattle.std.specs.Prelude.{ℕ, ◌≤◌, ◌<◌, max, ◌≡◌, Bool, true, false, [], Option, Some, None}
use Rattle.terms.specs.Bits.{Bytes}
use Rattle.nodehash.specs.Node.{leaf_hash, inner_hash}
use Rattle.layout.specs.Stores.{store_of}
use Rattle.rescue_rules.specs.Joining.{root_version, newest_child, join_at}
use Rattle.rescue_join.specs.Join.{RightFrom}
use Rattle.rescue_step.specs.declared.Reached as declared

-- The tree of a root of version a joins that of a root of version b, and the greatest version of a child newer than its
-- parent.
unfoldable pub joins_top : Bytes → ℕ → ℕ → ℕ → Bool
joins_top s next a b = join_at leaf_hash inner_hash 256 (store_of s).slots next a b []

unfoldable pub floor_top : Bytes → ℕ → ℕ → ℕ
floor_top s a b = newest_child 256 (store_of s).slots a b []

-- Each record of the tree of a root of version b is right.
unfoldable pub RightTop : Bytes → ℕ → Type 0
RightTop s b = RightFrom 256 (store_of s).slots b []

-- Version v doesn't join: it has no root, or its tree doesn't join, or a run that begins there would be too early.
pub data Stops (s : Bytes) (v next b low : ℕ) : Type 0 where
  rootless : root_version (store_of s).slots v ≡ 0 → Stops s v next b low
  apart : joins_top s next (root_version (store_of s).slots v) b ≡ false → Stops s v next b low
  above : v < max low (floor_top s (root_version (store_of s).slots v) b) → Stops s v next b low

-- Version v joins: its root is of version a, and no run begins before l.
pub record Joins (s : Bytes) (v next b low a l : ℕ) : Type 0 where
  pub root : root_version (store_of s).slots v ≡ a
  pub there : a ≡ 0 → ⊥
  pub joins : joins_top s next a b ≡ true
  pub floor : l ≡ max low (floor_top s a b)
  pub within : l ≤ v

abbrev pub StepSays : Bytes → ℕ → ℕ → ℕ → ℕ → Option declared.Reached → Type 0
StepSays s v next b low None = Stops s v next b low
StepSays s v next b low (Some r) = Joins s v next b low r.root r.floor
