-- Slots with the counts of a table are the slots counted anew, where the table has the counts. Assumes nothing.
use Prim.Native.Nat.{ℕ, zero, suc, ◌+◌, ◌*◌, ◌<◌}
use native.Mathlib.Omega.{arith}
use mathlib.Core.Path.{◌≡◌, refl, ap, ap₂, sym, ◌∙◌}
use mathlib.Core.List.{List, [], ◌∷◌}
use lib.ListN.{length, get_or, replicate}
use Rattle.terms.specs.Records.{Body, leaf_body, inner_body, Tally, tally, no_tally, Record, Slot, free, used, spoiled}
use Rattle.meaning.specs.Store.{on_record}
use Rattle.moved.specs.Moving.{counting, recounted}
use Rattle.moved.specs.Plain.{uncounted}
use Rattle.move_put.specs.Put.{tally_at, tally_of, tallied, tallied_from}

pub tallied_anew : (g : Record → Tally) (t : List ℕ) (k : ℕ) (xs : List Slot) →
    ((i : ℕ) (r : Record) → i < length xs → get_or xs i free ≡ used r → tally_of (tally_at t (k + i)) r.body ≡ g r) → tallied_from t k xs ≡ recounted g xs
tallied_anew g t k [] h = refl
tallied_anew g t k (x ∷ xs) h = ap₂ ◌∷◌ (here x (λ r e. h 0 r (omega arith) e)) (tallied_anew g t (suc k) xs next)
  where
    here : (y : Slot) → ((r : Record) → y ≡ used r → tally_of (tally_at t (k + 0)) r.body ≡ g r) → tallied (tally_at t k) y ≡ on_record (λ r. used (counting (g r) r)) y
    here free f = refl
    here (used r) f =
        let z : k ≡ k + 0 = omega arith in
        ap (λ c. used (counting c r)) (ap (λ m. tally_of (tally_at t m) r.body) z ∙ f r refl)
    here (spoiled y) f = refl

    next : (i : ℕ) (r : Record) → i < length xs → get_or xs i free ≡ used r → tally_of (tally_at t (suc k + i)) r.body ≡ g r
    next i r l e = let z : suc k + i ≡ k + suc i = omega arith in ap (λ m. tally_of (tally_at t m) r.body) z ∙ h (suc i) r (omega arith) e

zero_at_lem : (n i : ℕ) → get_or {A = ℕ} (replicate n 0) i 0 ≡ 0
zero_at_lem zero i = refl
zero_at_lem (suc n) zero = refl
zero_at_lem (suc n) (suc i) = zero_at_lem n i

-- a table of zeros has no counts
pub none_tallied : (n : ℕ) (xs : List Slot) → tallied_from (replicate n 0) 0 xs ≡ recounted uncounted xs
none_tallied n xs = tallied_anew uncounted (replicate n 0) 0 xs (λ i r l e. go (0 + i) r.body)
  where
    go : (i : ℕ) (b : Body) → tally_of (tally_at (replicate n 0) i) b ≡ no_tally
    go i (leaf_body k x) = refl
    go i (inner_body l r) = ap₂ tally (zero_at_lem n (2 * i)) (zero_at_lem n (2 * i + 1))
