-- What a scan over a list tells of its entries, and the entries of the scan: all pass, they add up, at most one is counted.
-- Assumes nothing.
use Prim.Native.Nat.{ℕ, zero, suc, ◌+◌, ◌<◌, ◌≤◌}
use native.Mathlib.Omega.{arith}
use native.Mathlib.Nat.{le_of_suc-le-suc}
use mathlib.Core.Path.{◌≡◌, refl, ap}
use mathlib.Core.Bool.{Bool, true}
use mathlib.Core.List.{List, [], ◌∷◌}
use lib.ListN.{length, get_or}
use Rattle.terms.proofs.Tests.{and_left, and_right}
use Rattle.local.specs.Test.{every, total}

module _ {A : Type 0} where
  pub every_at : (f : A → Bool) (xs : List A) (d : A) → every f xs ≡ true → (i : ℕ) → i < length xs → f (get_or xs i d) ≡ true
  every_at f [] d h i l = absurd (omega arith)
  every_at f (x ∷ xs) d h zero l = and_left (f x) (every f xs) h
  every_at f (x ∷ xs) d h (suc i) l = every_at f xs d (and_right (f x) (every f xs) h) i (le_of_suc-le-suc l)

  pub at_every : (f : A → Bool) (xs : List A) (d : A) → ((i : ℕ) → i < length xs → f (get_or xs i d) ≡ true) → every f xs ≡ true
  at_every f [] d h = refl
  at_every f (x ∷ xs) d h = rw (h 0 (omega arith)) (at_every f xs d (λ i l. h (suc i) (omega arith)))

  -- each entry adds its part, and what is not nothing comes from an entry
  pub at_total : (f : A → ℕ) (xs : List A) (d : A) (i : ℕ) → i < length xs → f (get_or xs i d) ≤ total f xs
  at_total f [] d i l = absurd (omega arith)
  at_total f (x ∷ xs) d zero l = omega arith
  at_total f (x ∷ xs) d (suc i) l = omega (arith, at_total f xs d i (le_of_suc-le-suc l))

  pub total_at : (f : A → ℕ) (xs : List A) (d : A) → 1 ≤ total f xs → (i : ℕ) × (i < length xs) × (1 ≤ f (get_or xs i d))
  total_at f [] d h = absurd (omega arith)
  total_at f (x ∷ xs) d h = go (f x) refl (total_at f xs d)
    where
      go : (n : ℕ) → f x ≡ n → (1 ≤ total f xs → (i : ℕ) × (i < length xs) × (1 ≤ f (get_or xs i d))) →
          (i : ℕ) × (i < length (x ∷ xs)) × (1 ≤ f (get_or (x ∷ xs) i d))
      go zero e ih = let (i, l, k) = ih (omega arith) in (suc i, omega arith, k)
      go (suc n) e ih = (0, omega arith, omega arith)

  pub total_le : (f g : A → ℕ) (xs : List A) (d : A) →
      ((i : ℕ) → i < length xs → f (get_or xs i d) ≤ g (get_or xs i d)) → total f xs ≤ total g xs
  total_le f g [] d h = omega arith
  total_le f g (x ∷ xs) d h = omega (arith, h 0 (omega arith), total_le f g xs d (λ i l. h (suc i) (omega arith)))

  pub total_plus : (f g : A → ℕ) (xs : List A) → total (λ x. f x + g x) xs ≡ total f xs + total g xs
  total_plus f g [] = refl
  total_plus f g (x ∷ xs) = omega (arith, total_plus f g xs)

  pub total_none : (xs : List A) → total (λ x. 0) xs ≡ 0
  total_none [] = refl
  total_none (x ∷ xs) = omega (arith, total_none xs)

  -- at most one is counted exactly if no two places of the list are
  pub one_counted : (f : A → ℕ) (xs : List A) (d : A) → total f xs ≤ 1 →
      (i j : ℕ) → i < length xs → j < length xs → 1 ≤ f (get_or xs i d) → 1 ≤ f (get_or xs j d) → i ≡ j
  one_counted f [] d h i j k l a b = absurd (omega arith)
  one_counted f (x ∷ xs) d h zero zero k l a b = refl
  one_counted f (x ∷ xs) d h zero (suc j) k l a b = absurd (omega (arith, at_total f xs d j (le_of_suc-le-suc l)))
  one_counted f (x ∷ xs) d h (suc i) zero k l a b = absurd (omega (arith, at_total f xs d i (le_of_suc-le-suc k)))
  one_counted f (x ∷ xs) d h (suc i) (suc j) k l a b =
      ap suc (one_counted f xs d (omega arith) i j (le_of_suc-le-suc k) (le_of_suc-le-suc l) a b)

  pub count_one : (f : A → ℕ) (xs : List A) (d : A) → ((i : ℕ) → i < length xs → f (get_or xs i d) ≤ 1) →
      ((i j : ℕ) → i < length xs → j < length xs → 1 ≤ f (get_or xs i d) → 1 ≤ f (get_or xs j d) → i ≡ j) → total f xs ≤ 1
  count_one f [] d h u = omega arith
  count_one f (x ∷ xs) d h u =
      go
      (count_one f xs d (λ i l. h (suc i) (omega arith)) (λ i j k l a b. omega (arith, u (suc i) (suc j) (omega arith) (omega arith) a b)))
      (f x) refl (total f xs) refl
    where
      go : total f xs ≤ 1 → (m : ℕ) → f x ≡ m → (n : ℕ) → total f xs ≡ n → f x + total f xs ≤ 1
      go k zero e n t = omega arith
      go k (suc m) e zero t = omega (arith, h 0 (omega arith))
      go k (suc m) e (suc n) t =
          let (i, l, a) = total_at f xs d (omega arith) in absurd (omega (arith, u 0 (suc i) (omega arith) (omega arith) (omega arith) a))
