-- Rows 8, 13 and 9 of a comparison: what a sound store answers is what they deserve. Assumes nothing.
use Prim.Native.Nat.{ℕ, ◌*◌}
use native.Mathlib.Omega.{arith}
use mathlib.Core.Path.{◌≡◌, refl, sym, ◌∙◌}
use mathlib.Core.Logic.{inl, inr}
use mathlib.Core.Bool.{Bool, true, false, cond, ◌&&◌, true≢false}
use lib.ListN.{length, drop}
use lib.Dec.{ltb, leb}
use borrow.Author.Tests.{ltb-true, ltb-false, leb-true, le-leb}
use Rattle.terms.specs.Bits.{Bytes}
use Rattle.terms.specs.Records.{Store}
use Rattle.terms.proofs.Tests.{and_left, and_right}
use Rattle.meaning.specs.Sound.{Kept}
use Rattle.meaning.specs.Calls.{accepted, refuse, is_kept}
use Rattle.meaning.specs.Answers.{number_of}
use Rattle.changed.specs.Changes.{items, item_size}
use Rattle.changed.specs.Compare.{changes_of, visits_of, compare}
use Rattle.layout.specs.Stores.{store_of}
use Rattle.refusals.proofs.Parts.{Row, comparison_rows}
use Rattle.refusals.proofs.Exactly.{First}

-- Where two neighbouring rows are deserved at once, the answer is the number of the one that is tested first.
module _ (s : Bytes) (first second limit : ℕ) (room : Bytes) where
  eight_before_thirteen : Row 8 (comparison_rows s first second limit room) → Row 13 (comparison_rows s first second limit room) → First (comparison_rows s first second limit room) 8
  eight_before_thirteen a b = inl (a, refl)

  thirteen_before_nine : (Row 8 (comparison_rows s first second limit room) → ⊥) → Row 13 (comparison_rows s first second limit room) →
      Row 9 (comparison_rows s first second limit room) → First (comparison_rows s first second limit room) 13
  thirteen_before_nine kept a b = inr (kept, inl (a, refl))

kept_of : (st : Store) (v : ℕ) → is_kept st v ≡ true → Kept st v
unfolding is_kept
kept_of st v e = (
  leb-true st.oldest v (and_left (leb st.oldest v) (leb v st.latest) e),
  leb-true v st.latest (and_right (leb st.oldest v) (leb v st.latest) e),
)

of_kept : (st : Store) (v : ℕ) → Kept st v → is_kept st v ≡ true
unfolding is_kept
of_kept st v k = rw (le-leb st.oldest v k.0, le-leb v st.latest k.1)

pub changes_first : (s : Bytes) (first second limit : ℕ) (room : Bytes) →
    First (comparison_rows s first second limit room) (number_of (compare first second limit (length room) (store_of s)).answer)
unfolding compare refuse
changes_first s first second limit room =
    kept (is_kept (store_of s) first) (is_kept (store_of s) second) refl refl
  where
    few : (a b : Bool) → ltb limit (visits_of (store_of s) first second) ≡ a →
        ltb (length room) (item_size * length (items (changes_of (store_of s) first second))) ≡ b →
        First (drop 1 (comparison_rows s first second limit room))
        (number_of (cond a (refuse 13 (store_of s))
        (cond b (refuse 9 (store_of s)) (record { answer = accepted (items (changes_of (store_of s) first second)); store = store_of s }))).answer)
    few true b e f = inl (ltb-true limit (visits_of (store_of s) first second) e, refl)
    few false true e f =
        inr (λ l. absurd (omega (arith, ltb-false limit (visits_of (store_of s) first second) e)), inl (ltb-true (length room) (item_size * length (items (changes_of (store_of s) first second))) f, refl))
    few false false e f =
        inr (
          λ l. absurd (omega (arith, ltb-false limit (visits_of (store_of s) first second) e)),
          inr (λ l. absurd (omega (arith, ltb-false (length room) (item_size * length (items (changes_of (store_of s) first second))) f)), refl),
        )

    kept : (a b : Bool) → is_kept (store_of s) first ≡ a → is_kept (store_of s) second ≡ b →
        First (comparison_rows s first second limit room)
        (number_of (cond (a && b)
        (cond (ltb limit (visits_of (store_of s) first second)) (refuse 13 (store_of s))
        (cond (ltb (length room) (item_size * length (items (changes_of (store_of s) first second)))) (refuse 9 (store_of s))
        (record { answer = accepted (items (changes_of (store_of s) first second)); store = store_of s })))
        (refuse 8 (store_of s))).answer)
    kept false b e f = inl (λ k. true≢false (sym (of_kept (store_of s) first k.0) ∙ e), refl)
    kept true false e f = inl (λ k. true≢false (sym (of_kept (store_of s) second k.1) ∙ f), refl)
    kept true true e f =
        inr (λ n. n (kept_of (store_of s) first e, kept_of (store_of s) second f), few (ltb limit (visits_of (store_of s) first second)) (ltb (length room) (item_size * length (items (changes_of (store_of s) first second)))) refl refl)
