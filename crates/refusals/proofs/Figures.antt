-- Rows 8 and 9 of the figures: what a sound store answers is what they deserve. Assumes nothing.
use Prim.Native.Nat.{ℕ, suc, ◌*◌, ◌-◌}
use native.Mathlib.Omega.{arith}
use mathlib.Core.Path.{◌≡◌, refl, sym, ◌∙◌}
use mathlib.Core.Logic.{inl, inr}
use mathlib.Core.Bool.{Bool, true, false, cond, true≢false}
use lib.ListN.{length, drop}
use lib.Dec.{ltb}
use borrow.Author.Tests.{ltb-true, ltb-false, lt-ltb, le-leb}
use Rattle.terms.specs.Bits.{Bytes}
use Rattle.terms.specs.Records.{Store}
use Rattle.meaning.specs.Sound.{Kept}
use Rattle.meaning.specs.Calls.{accepted, refuse, is_kept}
use Rattle.meaning.specs.Answers.{number_of}
use Rattle.quarter.specs.Figures.{figures_size, most_versions, range_right, quarter_of, figures}
use Rattle.quarter.proofs.Theorems.{range_right_lem}
use Rattle.layout.specs.Stores.{store_of}
use Rattle.refusals.specs.Tables.{KeptRange}
use Rattle.refusals.proofs.Parts.{Row, range_rows}
use Rattle.refusals.proofs.Exactly.{First}

-- Where both rows are deserved at once, the answer is the number of the one that is tested first.
eight_before_nine : (s : Bytes) (first last : ℕ) (room : Bytes) → Row 8 (range_rows s first last room) → Row 9 (range_rows s first last room) → First (range_rows s first last room) 8
eight_before_nine s first last room a b = inl (a, refl)

is_kept_lem : (st : Store) (v : ℕ) → Kept st v → is_kept st v ≡ true
unfolding is_kept
is_kept_lem st v k = rw (le-leb st.oldest v k.0, le-leb v st.latest k.1)

module _ (s : Bytes) (first last : ℕ) where
  -- row 8 by its test
  pub range_said : range_right (store_of s) first last ≡ true → KeptRange s first last
  range_said e =
      let r = range_right_lem (store_of s) first last e in
      (r.first_kept_lem, r.last_kept, r.ordered, r.few)

  said_range : KeptRange s first last → range_right (store_of s) first last ≡ true
  unfolding range_right
  said_range w =
      rw (is_kept_lem (store_of s) first w.0, is_kept_lem (store_of s) last w.1, le-leb first last w.2, lt-ltb (last - first) most_versions (omega (arith, w.3, w.2)))

  pub figures_first : (room : Bytes) → First (range_rows s first last room) (number_of (figures first last (length room) (store_of s)).answer)
  unfolding figures refuse
  figures_first room = range (range_right (store_of s) first last) refl
    where
      fits : (b : Bool) → KeptRange s first last → ltb (length room) (figures_size * (suc last - first)) ≡ b →
          First (drop 1 (range_rows s first last room))
          (number_of (cond b (refuse 9 (store_of s)) (record { answer = accepted (quarter_of (store_of s) first last); store = store_of s })).answer)
      fits true w e = inl (omega (arith, ltb-true (length room) (figures_size * (suc last - first)) e, w.2), refl)
      fits false w e = inr (λ l. absurd (omega (arith, ltb-false (length room) (figures_size * (suc last - first)) e, w.2)), refl)

      range : (b : Bool) → range_right (store_of s) first last ≡ b →
          First (range_rows s first last room)
          (number_of (cond b
          (cond (ltb (length room) (figures_size * (suc last - first))) (refuse 9 (store_of s)) (record { answer = accepted (quarter_of (store_of s) first last); store = store_of s }))
          (refuse 8 (store_of s))).answer)
      range false e = inl (λ w. true≢false (sym (said_range w) ∙ e), refl)
      range true e = let w = range_said e in inr (λ n. n w, fits (ltb (length room) (figures_size * (suc last - first))) w refl)
