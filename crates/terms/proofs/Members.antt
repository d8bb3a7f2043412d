-- What stands in a list: members of lists put together, filtered and numbered. Assumes nothing.
use Prim.Native.Nat.{ℕ, zero, suc, ◌<◌}
use native.Mathlib.Omega.{arith}
use mathlib.Core.Path.{◌≡◌, refl, ap, sym, ◌∙◌}
use mathlib.Core.Logic.{◌⊎◌, inl, inr}
use mathlib.Core.Bool.{Bool, true, false, cond}
use mathlib.Core.List.{List, [], ◌∷◌, ◌++◌}
use lib.ListN.{length, get_or}
use Rattle.terms.specs.Bits.{filter, All}

module _ {A : Type 0} where
  abbrev pub In : A → List A → Type 0
  In a [] = ⊥
  In a (x ∷ xs) = (x ≡ a) ⊎ In a xs

  pub in_left : (a : A) (xs ys : List A) → In a xs → In a (xs ++ ys)
  in_left a [] ys h = absurd h
  in_left a (x ∷ xs) ys (inl e) = inl e
  in_left a (x ∷ xs) ys (inr h) = inr (in_left a xs ys h)

  pub in_right : (a : A) (xs ys : List A) → In a ys → In a (xs ++ ys)
  in_right a [] ys h = h
  in_right a (x ∷ xs) ys h = inr (in_right a xs ys h)

  pub in_append : (a : A) (xs ys : List A) → In a (xs ++ ys) → In a xs ⊎ In a ys
  in_append a [] ys h = inr h
  in_append a (x ∷ xs) ys (inl e) = inl (inl e)
  in_append a (x ∷ xs) ys (inr h) = elim (in_append a xs ys h) [ inl k ↦ inl (inr k) | inr k ↦ inr k ]

  pub in_filter : (a : A) (f : A → Bool) (xs : List A) → In a (filter f xs) → In a xs × (f a ≡ true)
  in_filter a f [] h = absurd h
  in_filter a f (x ∷ xs) h = go (λ k. in_filter a f xs k) (f x) refl h
    where
      go : (In a (filter f xs) → In a xs × (f a ≡ true)) →
          (b : Bool) → f x ≡ b → In a (cond b (x ∷ filter f xs) (filter f xs)) → In a (x ∷ xs) × (f a ≡ true)
      go ih true e (inl k) = (inl k, ap f (sym k) ∙ e)
      go ih true e (inr k) = let r = ih k in (inr r.0, r.1)
      go ih false e k = let r = ih k in (inr r.0, r.1)

  pub filter_in : (a : A) (f : A → Bool) (xs : List A) → In a xs → f a ≡ true → In a (filter f xs)
  filter_in a f [] h t = absurd h
  filter_in a f (x ∷ xs) (inl e) t = rw (ap f e ∙ t) (inl e)
  filter_in a f (x ∷ xs) (inr h) t =
      elim (f x) as (λ b. In a (cond b (x ∷ filter f xs) (filter f xs)))
      [ true ↦ inr (filter_in a f xs h t) | false ↦ filter_in a f xs h t ]

  pub all_in : (P : A → Type 0) (xs : List A) → ((a : A) → In a xs → P a) → All P xs
  all_in P [] f = tt
  all_in P (x ∷ xs) f = (f x (inl refl), all_in P xs (λ a h. f a (inr h)))

  pub get_d_in : (xs : List A) (i : ℕ) (d a : A) → i < length xs → get_or xs i d ≡ a → In a xs
  get_d_in [] i d a l e = absurd (omega arith)
  get_d_in (x ∷ xs) zero d a l e = inl e
  get_d_in (x ∷ xs) (suc i) d a l e = inr (get_d_in xs i d a (omega arith) e)

  pub in_get_d : (xs : List A) (d a : A) → In a xs → (i : ℕ) × (i < length xs) × (get_or xs i d ≡ a)
  in_get_d [] d a h = absurd h
  in_get_d (x ∷ xs) d a (inl e) = (0, omega arith, e)
  in_get_d (x ∷ xs) d a (inr h) = let r = in_get_d xs d a h in (suc r.0, omega (arith, r.1), r.2)
