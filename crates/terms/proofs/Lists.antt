-- Laws of `filter` and `All`: filters go past `++` and past each other, and what holds of each entry stays with the entries that pass.
-- Assumes nothing.
use mathlib.Core.Path.{◌≡◌, refl, ap, sym, ◌∙◌, fun_ext}
use mathlib.Core.Bool.{Bool, true, false, cond, ◌&&◌}
use mathlib.Core.List.{List, [], ◌∷◌, ◌++◌}
use Prim.Native.Nat.{ℕ, zero, suc, ◌-◌, ◌<◌}
use native.Mathlib.Omega.{arith}
use native.Mathlib.Nat.{sub-zero, zero-sub}
use lib.Seq.{take-nil}
use lib.ListN.{length, get_or, take, drop}
use Rattle.terms.specs.Bits.{filter, All}
use Rattle.terms.proofs.Tests.{and_comm}

module _ {A : Type 0} where
  pub filter_append : (f : A → Bool) (xs ys : List A) → filter f (xs ++ ys) ≡ filter f xs ++ filter f ys
  filter_append f [] ys = refl
  filter_append f (x ∷ xs) ys =
      elim (f x) as (λ b. cond b (x ∷ filter f (xs ++ ys)) (filter f (xs ++ ys)) ≡ cond b (x ∷ filter f xs) (filter f xs) ++ filter f ys)
      [ true ↦ ap (x ∷◌) (filter_append f xs ys) | false ↦ filter_append f xs ys ]

  pub filter_twice : (f g : A → Bool) (xs : List A) → filter f (filter g xs) ≡ filter (λ x. g x && f x) xs
  filter_twice f g [] = refl
  filter_twice f g (x ∷ xs) =
      elim (g x) as (λ b. filter f (cond b (x ∷ filter g xs) (filter g xs)) ≡ cond (b && f x) (x ∷ filter (λ y. g y && f y) xs) (filter (λ y. g y && f y) xs))
      [ true ↦ ap (λ u. cond (f x) (x ∷ u) u) (filter_twice f g xs) | false ↦ filter_twice f g xs ]

  pub filter_comm : (f g : A → Bool) (xs : List A) → filter f (filter g xs) ≡ filter g (filter f xs)
  filter_comm f g xs = filter_twice f g xs ∙ ap (λ h. filter h xs) (fun_ext λ x. and_comm (g x) (f x)) ∙ sym (filter_twice g f xs)

  -- the same test at each entry
  pub filter_ext : (f g : A → Bool) (xs : List A) → All (λ x. f x ≡ g x) xs → filter f xs ≡ filter g xs
  filter_ext f g [] e = refl
  filter_ext f g (x ∷ xs) e = rw (e.0, filter_ext f g xs e.1)

  pub filter_all : (f : A → Bool) (xs : List A) → All (λ x. f x ≡ true) xs → filter f xs ≡ xs
  filter_all f [] e = refl
  filter_all f (x ∷ xs) e = rw (e.0, filter_all f xs e.1)

  pub filter_none : (f : A → Bool) (xs : List A) → All (λ x. f x ≡ false) xs → filter f xs ≡ []
  filter_none f [] e = refl
  filter_none f (x ∷ xs) e = rw (e.0, filter_none f xs e.1)

  pub all_filter : (P : A → Type 0) (f : A → Bool) (xs : List A) → All P xs → All P (filter f xs)
  all_filter P f [] h = tt
  all_filter P f (x ∷ xs) h =
      elim (f x) as (λ b. All P (cond b (x ∷ filter f xs) (filter f xs)))
      [ true ↦ (h.0, all_filter P f xs h.1) | false ↦ all_filter P f xs h.1 ]

  pub all_always : (P : A → Type 0) (xs : List A) → ((x : A) → P x) → All P xs
  all_always P [] f = tt
  all_always P (x ∷ xs) f = (f x, all_always P xs f)

  pub all_append : (P : A → Type 0) (xs ys : List A) → All P xs → All P ys → All P (xs ++ ys)
  all_append P [] ys h k = k
  all_append P (x ∷ xs) ys h k = (h.0, all_append P xs ys h.1 k)

  pub all_map : (P Q : A → Type 0) (xs : List A) → ((x : A) → P x → Q x) → All P xs → All Q xs
  all_map P Q [] f h = tt
  all_map P Q (x ∷ xs) f h = (f x h.0, all_map P Q xs f h.1)

  pub all_map₂ : (P Q R : A → Type 0) (xs : List A) → ((x : A) → P x → Q x → R x) → All P xs → All Q xs → All R xs
  all_map₂ P Q R [] f h k = tt
  all_map₂ P Q R (x ∷ xs) f h k = (f x h.0 k.0, all_map₂ P Q R xs f h.1 k.1)

  pub filter_passed : (f : A → Bool) (xs : List A) → All (λ x. f x ≡ true) (filter f xs)
  filter_passed f [] = tt
  filter_passed f (x ∷ xs) = go (f x) refl (filter_passed f xs)
    where
      go : (b : Bool) → f x ≡ b → All (λ y. f y ≡ true) (filter f xs) → All (λ y. f y ≡ true) (cond b (x ∷ filter f xs) (filter f xs))
      go true e r = (e, r)
      go false e r = r

  pub all_take : (P : A → Type 0) (n : ℕ) (xs : List A) → All P xs → All P (take n xs)
  all_take P zero xs h = tt
  all_take P (suc n) [] h = tt
  all_take P (suc n) (x ∷ xs) h = (h.0, all_take P n xs h.1)

  pub all_drop : (P : A → Type 0) (n : ℕ) (xs : List A) → All P xs → All P (drop n xs)
  all_drop P zero xs h = h
  all_drop P (suc n) [] h = tt
  all_drop P (suc n) (x ∷ xs) h = all_drop P n xs h.1

  pub all_at : (P : A → Type 0) (xs : List A) (d : A) (i : ℕ) → All P xs → i < length xs → P (get_or xs i d)
  all_at P [] d i h l = absurd (omega arith)
  all_at P (x ∷ xs) d zero h l = h.0
  all_at P (x ∷ xs) d (suc i) h l = all_at P xs d i h.1 (omega arith)

  -- what holds at each index holds of each entry
  pub all_of : (P : A → Type 0) (xs : List A) (d : A) → ((i : ℕ) → i < length xs → P (get_or xs i d)) → All P xs
  all_of P [] d f = tt
  all_of P (x ∷ xs) d f = (f 0 (omega arith), all_of P xs d (λ i h. f (suc i) (omega arith)))

  -- a part of a front
  pub drop_take : (i n : ℕ) (xs : List A) → drop i (take n xs) ≡ take (n - i) (drop i xs)
  drop_take zero n xs = rw (sub-zero n)
  drop_take (suc i) zero xs = rw (zero-sub (suc i))
  drop_take (suc i) (suc n) [] = sym (take-nil (suc n - suc i))
  drop_take (suc i) (suc n) (x ∷ xs) = let e : n - i ≡ suc n - suc i = omega arith in drop_take i n xs ∙ ap (λ k. take k (drop i xs)) e
