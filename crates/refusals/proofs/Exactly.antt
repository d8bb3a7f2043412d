-- An answer that is the number of the first row that holds, or 0 where none does, is exact: no other row's number is the same. Assumes
-- nothing.
use Prim.Native.Nat.{ℕ}
use mathlib.Core.Path.{◌≡◌, sym, ◌∙◌}
use mathlib.Core.Logic.{◌⊎◌, inl, inr}
use mathlib.Core.Bool.{Bool, true, ◌&&◌, not, false≢true}
use mathlib.Core.List.{[], ◌∷◌, ◌++◌}
use lib.Dec.{eqb}
use borrow.Author.Tests.{eq-eqb}
use Rattle.terms.proofs.Tests.{and_left, and_right}
use Rattle.refusals.specs.Exactly.{Table, Listed, EachAfter, Exactly, NoneOf}

-- the first row that holds
abbrev pub First : Table → ℕ → Type 0
First [] r = r ≡ 0
First (row ∷ rows) r = (row.1 × (r ≡ row.0)) ⊎ ((row.1 → ⊥) × First rows r)

-- no row of the first table holds, so it is the first of the second
pub past : (rows more : Table) (r : ℕ) → NoneOf rows → First more r → First (rows ++ more) r
past [] more r n f = f
past (row ∷ rows) more r n f = inr (n.0, past rows more r n.1 f)

pub within : (rows more : Table) (r : ℕ) → First rows r → (r ≡ 0 → ⊥) → First (rows ++ more) r
within [] more r f z = absurd (z f)
within (row ∷ rows) more r (inl h) z = inl h
within (row ∷ rows) more r (inr h) z = inr (h.0, within rows more r h.1 z)

-- a number is neither 0 nor one of a table's
abbrev apart : ℕ → Table → Bool
apart n [] = not (eqb n 0)
apart n (row ∷ rows) = not (eqb n row.0) && apart n rows

-- the numbers of a table differ, and none is 0
abbrev pub distinct : Table → Bool
distinct [] = true
distinct (row ∷ rows) = apart row.0 rows && distinct rows

differ : (m n : ℕ) → not (eqb m n) ≡ true → m ≡ n → ⊥
differ m n h e = false≢true (rw (eq-eqb m n e) at h)

listed : (rows : Table) (r : ℕ) → First rows r → Listed rows r
listed [] r f = f
listed (row ∷ rows) r (inl h) = inl h.1
listed (row ∷ rows) r (inr h) = inr (listed rows r h.1)

not_listed : (n : ℕ) (rows : Table) (r : ℕ) → apart n rows ≡ true → Listed rows r → r ≡ n → ⊥
not_listed n [] r h f e = differ n 0 h (sym e ∙ f)
not_listed n (row ∷ rows) r h (inl f) e = differ n row.0 (and_left (not (eqb n row.0)) (apart n rows) h) (sym e ∙ f)
not_listed n (row ∷ rows) r h (inr f) e = not_listed n rows r (and_right (not (eqb n row.0)) (apart n rows) h) f e

-- once a row has held
each_not : (none : Type 0) → (none → ⊥) → (rows : Table) (r : ℕ) → apart r rows ≡ true → EachAfter none rows r
each_not none f [] r h = (λ e. absurd (differ r 0 h e), λ n. absurd (f n))
each_not none f (row ∷ rows) r h = (
  (λ e. absurd (differ r row.0 (and_left (not (eqb r row.0)) (apart r rows) h) e), λ n. absurd (f n.0)),
  each_not (none × (row.1 → ⊥)) (λ n. f n.0) rows r (and_right (not (eqb r row.0)) (apart r rows) h),
)

each : (none : Type 0) → none → (rows : Table) (r : ℕ) → distinct rows ≡ true → First rows r → EachAfter none rows r
each none n [] r h f = (λ e. n, λ m. f)
each none n (row ∷ rows) r h (inl g) = (
  (λ e. (n, g.0), λ m. g.1),
  each_not (none × (row.1 → ⊥)) (λ m. m.1 g.0) rows r (rw g.1 (and_left (apart row.0 rows) (distinct rows) h)),
)
each none n (row ∷ rows) r h (inr g) = (
  (λ e. absurd (not_listed row.0 rows r (and_left (apart row.0 rows) (distinct rows) h) (listed rows r g.1) e), λ m. absurd (g.0 m.1)),
  each (none × (row.1 → ⊥)) (n, g.0) rows r (and_right (apart row.0 rows) (distinct rows) h) g.1,
)

pub exactly : (rows : Table) (r : ℕ) → distinct rows ≡ true → First rows r → Exactly rows r
exactly rows r h f = record { listed = listed rows r f; each = each (Unit {0}) tt rows r h f }
