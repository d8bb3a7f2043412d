-- Rows 12, 21, 10 and 11 of a shelf's proof: what is told of it is what they deserve. Assumes nothing.
use Prim.Native.Nat.{ℕ}
use native.Mathlib.Omega.{arith}
use mathlib.Core.Path.{refl, subst}
use mathlib.Core.Logic.{inl, inr}
use mathlib.Core.List.{[], ◌∷◌}
use lib.ListN.{drop}
use Rattle.terms.specs.Bits.{Bytes}
use Rattle.meaning.specs.Calls.{Answer}
use Rattle.meaning.specs.Reading.{Verdict}
use Rattle.meaning.specs.Answers.{number_of}
use Rattle.verify_rules.specs.Verify.{Sizes32}
use Rattle.shelf_rules.specs.Shelf.{ShelfHolds, ShelfTold, not_32_bytes, too_many_bits, not_in_form, not_holding, holding}
use Rattle.shelf_rules.proofs.Told.{one_shelf_is}
use Rattle.refusals.specs.Exactly.{Table}
use Rattle.refusals.specs.Tables.{Not32, shelf_verify_rows}
use Rattle.refusals.proofs.Parts.{Row}
use Rattle.refusals.proofs.Exactly.{First}

-- Where two neighbouring rows are deserved at once, the answer is the number of the one that is tested first.
module _ (root : Bytes) (b : ℕ) (k x : Bytes) where
  abbrev rows : Table
  rows = drop 1 (shelf_verify_rows root b k x)

  twenty_one_before_ten : Row 21 rows → Row 10 rows → First rows 21
  twenty_one_before_ten a f = inl (a, refl)

  ten_before_eleven : (Row 21 rows → ⊥) → Row 10 rows → First rows 10
  ten_before_eleven few a = inr (few, inl (a, refl))

  sized : Sizes32 root k → Not32 (root ∷ k ∷ []) → ⊥
  sized s n = n (s.0, (s.1, tt))

  pub shelf_first : {a : Answer Verdict} → ShelfTold root b k x a → First (shelf_verify_rows root b k x) (number_of a)
  shelf_first (not_32_bytes n) = inl (λ z. n (z.0, z.1.0), refl)
  shelf_first (too_many_bits s m) = inr (sized s, inl (m, refl))
  shelf_first (not_in_form s l n) = inr (sized s, inr (λ m. omega arith, inl (n, refl)))
  shelf_first (not_holding {p} s l w n) = inr (sized s, inr (λ m. omega arith, inr (λ f. f p w, inl ((p, w, n), refl))))
  shelf_first (holding {p} {v} s l w h) =
      inr (
        sized s,
        inr (
          λ m. omega arith,
          inr (λ f. f p w, inr (λ d. d.2 v (subst (λ q. ShelfHolds root b k q v) (one_shelf_is x p d.0 w d.1) h), refl)),
        ),
      )
