-- A lifetime by its ends: a version before it, one of a record that is never retired, one of a record that is. Assumes nothing.
use Prim.Native.Nat.{ℕ, ◌<◌, ◌≤◌}
use native.Mathlib.Omega.{arith}
use mathlib.Core.Path.{◌≡◌, refl}
use mathlib.Core.Bool.{Bool, true, false, not}
use lib.Dec.{leb, ltb}
use borrow.Author.Tests.{leb-true, leb-false, le-leb, lt-leb, lt-ltb, le-ltb}
use Rattle.lifetime.specs.Lifetime.{covers}

pub before_it : (a s v : ℕ) → v < a → false ≡ covers a s v
unfolding covers
before_it a s v h = rw (lt-leb a v h)

pub never_ends : (a s v : ℕ) → a ≤ v → s ≡ 0 → true ≡ covers a s v
unfolding covers
never_ends a s v h z = rw (le-leb a v h, z)

pub until_it_ends : (a s v : ℕ) → a ≤ v → (s ≡ 0 → ⊥) → ltb v s ≡ covers a s v
unfolding covers
until_it_ends a s v h z = rw (le-leb a v h, le-leb 1 s (omega arith)) (go (leb s v) refl)
  where
    go : (c : Bool) → leb s v ≡ c → ltb v s ≡ not c
    go true e = le-ltb v s (leb-true s v e)
    go false e = lt-ltb v s (leb-false s v e)
