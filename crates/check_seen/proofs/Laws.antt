-- One entry of a list set to at most n more. Assumes nothing.
use Prim.Native.Nat.{ℕ, zero, suc, ◌+◌, ◌≤◌}
use native.Mathlib.Omega.{arith}
use mathlib.Core.Path.{◌≡◌, refl, ap}
use mathlib.Core.List.{List, [], ◌∷◌}
use mathlib.Core.Bool.{Bool, true, false, cond}
use lib.ListN.{get_or, set}
use lib.Seq.{get_or-set_other}
use lib.Dec.{eqb}
use borrow.Author.Tests.{eqb-true, eqb-false}
use Rattle.check_seen.specs.Sums.{Added}

top_le : (xs : List ℕ) (c n v : ℕ) → v ≤ get_or xs c 0 + n → get_or (set xs c v) c 0 ≤ get_or xs c 0 + n
top_le [] c n v h = omega arith
top_le (x ∷ xs) zero n v h = h
top_le (x ∷ xs) (suc c) n v h = top_le xs c n v h

pub set_added : (xs : List ℕ) (c n v : ℕ) → v ≤ get_or xs c 0 + n → Added xs (set xs c v) c n
set_added xs c n v h i = go (eqb i c) refl
  where
    go : (t : Bool) → eqb i c ≡ t → get_or (set xs c v) i 0 ≤ get_or xs i 0 + cond t n 0
    go true e =
        let s = eqb-true i c e in
        omega (arith, top_le xs c n v h, ap (λ k. get_or (set xs c v) k 0) s, ap (λ k. get_or xs k 0) s)
    go false e = omega (arith, get_or-set_other xs c i v 0 (eqb-false i c e))
