-- Whether a version is kept, by the two versions of the header. Assumes nothing.
use Prim.Native.Nat.{ℕ, ◌≤◌, ◌<◌}
use mathlib.Core.Path.{◌≡◌}
use mathlib.Core.Bool.{false}
use lib.Dec.{leb}
use borrow.Author.Tests.{le-leb, lt-leb}
use Rattle.terms.specs.Bits.{Bytes}
use Rattle.meaning.specs.Calls.{is_kept}
use Rattle.layout.specs.Stores.{store_of}

module _ (s : Bytes) (v : ℕ) where
  pub below_oldest : v < (store_of s).oldest → false ≡ is_kept (store_of s) v
  unfolding is_kept
  below_oldest h = rw (lt-leb (store_of s).oldest v h)

  pub up_to_latest : (store_of s).oldest ≤ v → leb v (store_of s).latest ≡ is_kept (store_of s) v
  unfolding is_kept
  up_to_latest h = rw (le-leb (store_of s).oldest v h)
