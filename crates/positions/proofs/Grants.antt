-- The number of leaves of a tree is the number of its grants; a position among the grants of two trees is one of the first or, past those, one of
-- the second. Assumes nothing.
use Prim.Native.Nat.{ℕ, zero, suc, ◌+◌, ◌-◌, ◌<◌, ◌≤◌}
use native.Mathlib.Omega.{arith}
use mathlib.Core.Path.{◌≡◌, refl, ap, ap₂, sym, ◌∙◌}
use mathlib.Core.List.{List, [], ◌∷◌, ◌++◌}
use lib.ListN.{length, length-append}
use Rattle.terms.specs.Records.{Grant}
use Rattle.meaning.specs.Tree.{VTree, vnone, vleaf, vinner, leaves, grants_in}
use Rattle.meaning.specs.Calls.{refused}
use Rattle.meaning.specs.Counting.{grant_at}

pub leaves_are : (t : VTree) → leaves t ≡ length (grants_in t)
leaves_are vnone = refl
leaves_are (vleaf v g) = refl
leaves_are (vinner v l r) = ap₂ ◌+◌ (leaves_are l) (leaves_are r) ∙ sym (length-append (grants_in l) (grants_in r))

pub first_at : (xs ys : List Grant) (i : ℕ) → i < length xs → grant_at (xs ++ ys) i ≡ grant_at xs i
first_at [] ys i l = absurd (omega arith)
first_at (x ∷ xs) ys zero l = refl
first_at (x ∷ xs) ys (suc i) l = first_at xs ys i (omega arith)

pub rest_at : (xs ys : List Grant) (i j : ℕ) → i ≡ length xs + j → grant_at (xs ++ ys) i ≡ grant_at ys j
rest_at [] ys i j e = ap (grant_at ys) (omega arith)
rest_at (x ∷ xs) ys zero j e = absurd (omega arith)
rest_at (x ∷ xs) ys (suc i) j e = rest_at xs ys i j (omega arith)

pub none_at : (xs : List Grant) (i : ℕ) → length xs ≤ i → grant_at xs i ≡ refused 20
none_at [] i l = refl
none_at (x ∷ xs) zero l = absurd (omega arith)
none_at (x ∷ xs) (suc i) l = none_at xs i (omega arith)
