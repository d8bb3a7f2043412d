-- Document 02, request 2026-08, over bytes: the target filled with the longest run. No public promise reaches this
-- file. Assumes nothing.
use Rattle.std.specs.Prelude.{ℕ, ◌-◌, ◌≤◌, ◌≡◌, true, length}
use Rattle.terms.specs.declared.Form.TheVariants.{Counted as counted}
use Rattle.terms.specs.Bits.{Bytes}
use Rattle.terms.specs.Records.{Store}
use Rattle.nodehash.specs.Node.{leaf_hash, inner_hash}
use Rattle.layout.specs.Headers.{size_right}
use Rattle.layout.specs.Stores.{store_of, store_bytes}
use Rattle.rescue_rules.specs.Rescue.{rescued, Longest}
use Rattle.rescue_step.specs.Step.{Joins}

-- The target's bytes with other bounds.
abbrev pub bounded : ℕ → ℕ → Bytes → Bytes
bounded oldest latest t =
    store_bytes (record { oldest = oldest; latest = latest; slots = (store_of t).slots; form = counted })

-- Bytes of the right size that are those of the store they are read as.
pub record Shaped (t : Bytes) : Type 0 where
  pub size : size_right counted (length t) ≡ true
  pub bytes : t ≡ store_bytes (store_of t)

-- The tree of latest has passed.
pub record Fillable (s : Bytes) (oldest latest root low : ℕ) (t : Bytes) : Type 0 where
  pub size : size_right counted (length s) ≡ true
  pub equal : length t ≡ length s
  pub ordered : oldest ≤ latest
  pub joins : Joins s latest 0 0 0 root low

-- The target holds the rescued store of the longest run, which begins with this version.
pub record Filled (s : Bytes) (oldest latest first : ℕ) (t : Bytes) : Type 0 where
  pub longest : Longest leaf_hash inner_hash (store_of s).slots oldest latest first (latest - first)
  pub bytes : t ≡ store_bytes (rescued (store_of s).slots first (latest - first))
