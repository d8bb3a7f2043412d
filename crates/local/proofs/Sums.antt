-- Sums over a run of versions: the versions within bounds are as many as the bounds are apart, and what is counted at each version for
-- each entry of a list comes to the same whichever way it is added up. Assumes nothing.
use Prim.Native.Nat.{ℕ, zero, suc, ◌+◌, ◌-◌, ◌<◌, ◌≤◌, min, max}
use native.Mathlib.Omega.{arith}
use mathlib.Core.Path.{◌≡◌, refl, ap, sym, ◌∙◌}
use mathlib.Core.Bool.{Bool, true, false, cond, ◌&&◌}
use mathlib.Core.List.{List}
use lib.Dec.{leb, ltb, eqb}
use borrow.Author.Tests.{leb-true, leb-false, ltb-true, ltb-false, le-leb, lt-ltb, eqb-true, eqb-false}
use Rattle.local.specs.Test.{total}
use Rattle.local.proofs.Scans.{total_plus, total_none}

-- the sum of f over the n versions from a on
abbrev pub sum_to : (ℕ → ℕ) → ℕ → ℕ → ℕ
sum_to f a zero = 0
sum_to f a (suc n) = f (a + n) + sum_to f a n

-- 1 from lo on and before hi
unfoldable pub inside : ℕ → ℕ → ℕ → ℕ
inside lo hi v = cond (leb lo v && ltb v hi) 1 0

pub inside_is : (lo hi v : ℕ) → 1 ≤ inside lo hi v → (lo ≤ v) × (v < hi)
unfolding inside
inside_is lo hi v h = go (leb lo v) (ltb v hi) refl refl h
  where
    go : (s t : Bool) → leb lo v ≡ s → ltb v hi ≡ t → 1 ≤ cond (s && t) 1 0 → (lo ≤ v) × (v < hi)
    go true true k l h = (leb-true lo v k, ltb-true v hi l)
    go true false k l h = absurd (omega arith)
    go false t k l h = absurd (omega arith)

pub is_inside : (lo hi v : ℕ) → lo ≤ v → v < hi → 1 ≤ inside lo hi v
unfolding inside
is_inside lo hi v h k = rw (le-leb lo v h, lt-ltb v hi k) (omega arith)

pub inside_one : (lo hi v : ℕ) → inside lo hi v ≤ 1
unfolding inside
inside_one lo hi v = elim (leb lo v && ltb v hi) as (λ t. cond t 1 0 ≤ 1) [ true ↦ omega arith | false ↦ omega arith ]

pub sum_inside : (lo hi a n : ℕ) → sum_to (inside lo hi) a n ≡ min hi (a + n) - max lo a
unfolding inside
sum_inside lo hi a zero = omega arith
sum_inside lo hi a (suc n) = go (leb lo (a + n)) (ltb (a + n) hi) refl refl (sum_inside lo hi a n)
  where
    go : (s t : Bool) → leb lo (a + n) ≡ s → ltb (a + n) hi ≡ t → sum_to (inside lo hi) a n ≡ min hi (a + n) - max lo a →
        cond (s && t) 1 0 + sum_to (inside lo hi) a n ≡ min hi (a + suc n) - max lo a
    go true true k l h = let x = leb-true lo (a + n) k in let y = ltb-true (a + n) hi l in omega arith
    go true false k l h = let y = ltb-false (a + n) hi l in omega arith
    go false t k l h = let x = leb-false lo (a + n) k in omega arith

pub sum_none : (a n : ℕ) → sum_to (λ v. 0) a n ≡ 0
sum_none a zero = refl
sum_none a (suc n) = omega (arith, sum_none a n)

pub sum_swap : {A : Type 0} (g : ℕ → A → ℕ) (xs : List A) (a n : ℕ) →
    total (λ x. sum_to (λ v. g v x) a n) xs ≡ sum_to (λ v. total (g v) xs) a n
sum_swap g xs a zero = total_none xs
sum_swap g xs a (suc n) = total_plus (g (a + n)) (λ x. sum_to (λ v. g v x) a n) xs ∙ ap (total (g (a + n)) xs +◌) (sum_swap g xs a n)

pub sum_full : (f : ℕ → ℕ) (a n : ℕ) → ((v : ℕ) → a ≤ v → v < a + n → 1 ≤ f v) → n ≤ sum_to f a n
sum_full f a zero h = omega arith
sum_full f a (suc n) h = omega (arith, h (a + n) (omega arith) (omega arith), sum_full f a n (λ v k l. h v k (omega arith)))

-- at most one at each version, and none at w
sum_ones : (f : ℕ → ℕ) (a n : ℕ) → ((v : ℕ) → a ≤ v → v < a + n → f v ≤ 1) → sum_to f a n ≤ n
sum_ones f a zero h = omega arith
sum_ones f a (suc n) h = omega (arith, h (a + n) (omega arith) (omega arith), sum_ones f a n (λ v k l. h v k (omega arith)))

pub sum_gap : (f : ℕ → ℕ) (a n w : ℕ) → ((v : ℕ) → a ≤ v → v < a + n → f v ≤ 1) → a ≤ w → w < a + n → f w ≡ 0 → sum_to f a n < n
sum_gap f a zero w h k l e = absurd (omega arith)
sum_gap f a (suc n) w h k l e = go (eqb w (a + n)) refl (λ m. sum_gap f a n w (λ v x y. h v x (omega arith)) k m e)
  where
    go : (t : Bool) → eqb w (a + n) ≡ t → (w < a + n → sum_to f a n < n) → f (a + n) + sum_to f a n < suc n
    go true t ih =
        let z : f (a + n) ≡ 0 = ap f (sym (eqb-true w (a + n) t)) ∙ e in omega (arith, sum_ones f a n (λ v x y. h v x (omega arith)))
    go false t ih = let z = eqb-false w (a + n) t in omega (arith, h (a + n) (omega arith) (omega arith), ih (omega arith))
