-- A loop that fills an array, element after element: one more is set, and those before it stay. Assumes nothing.
use Prim.Native.Nat.{ℕ, zero, suc, ◌+◌, ◌<◌}
use mathlib.Core.Path.{◌≡◌, refl, ap}
use mathlib.Core.List.{List, [], ◌∷◌}
use native.Mathlib.Omega.{arith}
use lib.ListN.{length, set, get_or}
use lib.Seq.{get_or-set_same, get_or-set_other}
use borrow.Author.Count.{below_more}
use Rattle.sha256_eight.specs.Each.{Each}

pub filled : {A : Type 0} (P : ℕ → A → Type 0) (d : A) (r : List A) (l : ℕ) (v : A) → l < length r → Each l P d r → P l v → Each (l + 1) P d (set r l v)
filled P d r l v h done e =
    below_more (λ i. P i (get_or (set r l v) i d)) l
    (λ i k. rw (get_or-set_other r l i v d (λ q. absurd (omega arith))) (done i k))
    (rw (get_or-set_same r l v d h) e)

-- an element after one is set: it, or the one before
pub after_set : {A : Type 0} (P : A → Type 0) (l : List A) (s : ℕ) (v : A) (i : ℕ) (d : A) → (i ≡ s → P v) → P (get_or l i d) → P (get_or (set l s v) i d)
after_set P [] s v i d f h = h
after_set P (x ∷ l) zero v zero d f h = f refl
after_set P (x ∷ l) zero v (suc i) d f h = h
after_set P (x ∷ l) (suc s) v zero d f h = h
after_set P (x ∷ l) (suc s) v (suc i) d f h = after_set P l s v i d (λ e. f (ap suc e)) h
