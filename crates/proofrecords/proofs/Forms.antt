-- The form of a proof as the code tests it: one test after the other, and the parts of an absence proof where they lie. Each test is one of the
-- definition's. Assumes nothing.
use Prim.Native.Nat.{ℕ, zero, suc, ◌+◌, ◌*◌, ◌-◌, ◌<◌, ◌≤◌}
use native.Mathlib.Omega.{arith}
use native.Mathlib.Nat.{add-sub_cancel_left}
use mathlib.Core.Path.{◌≡◌, refl, ap, sym, ◌∙◌}
use mathlib.Core.Bool.{Bool, true, false, ◌&&◌, true≢false}
use mathlib.Core.List.{List, [], ◌∷◌}
use lib.ListN.{length, get_or, take, drop, length-drop}
use lib.Seq.{take_all}
use borrow.Author.Tests.{eqb-true, eq-eqb, leb-true, le-leb, lt-leb}
use Rattle.terms.specs.Bits.{Bytes}
use Rattle.terms.specs.Fields.{slice, field, all_of}
use Rattle.terms.proofs.Tests.{and_left, and_right, and_true}
use Rattle.terms.proofs.Fields.{all_of_tests}
use Rattle.proofrecords.specs.ProofBytes.{sides_right, step_count, presence_tests, is_presence, left_length, left_part, right_part, flags, neighbours_fit, absence_tests, is_absence}

and_false : (b : Bool) → b && false ≡ false
and_false true = refl
and_false false = refl

-- one test that fails decides
failed_at : (ts : List Bool) (k : ℕ) → get_or ts k true ≡ false → all_of ts ≡ false
unfolding all_of
failed_at [] k e = absurd (true≢false e)
failed_at (t ∷ ts) zero e = rw e
failed_at (t ∷ ts) (suc k) e = rw (failed_at ts k e) (and_false t)

pub presence_off : (x : Bytes) (k : ℕ) → get_or (presence_tests x) k true ≡ false → is_presence x ≡ false
unfolding is_presence
presence_off x k e = failed_at (presence_tests x) k e

pub absence_off : (x : Bytes) (k : ℕ) → get_or (absence_tests x) k true ≡ false → is_absence x ≡ false
unfolding is_absence
absence_off x k e = failed_at (absence_tests x) k e

-- the last test decides after the others
pub presence_on : (x : Bytes) → 72 ≤ length x → field 0 4 x ≡ length x → field 4 2 x ≡ 16 → step_count x ≤ 256 → length x ≡ 72 + 33 * step_count x →
    is_presence x ≡ sides_right (step_count x) (drop 72 x)
unfolding is_presence all_of
presence_on x a b c d e =
    rw (
      le-leb 72 (length x) a,
      eq-eqb (field 0 4 x) (length x) b,
      eq-eqb (field 4 2 x) 16 c,
      le-leb (step_count x) 256 d,
      eq-eqb (length x) (72 + 33 * step_count x) e,
    )
    (and_true (sides_right (step_count x) (drop 72 x)))

pub absence_on : (x : Bytes) → 40 ≤ length x → field 0 4 x ≡ length x → field 4 2 x ≡ 17 → 1 ≤ flags x → flags x ≤ 3 →
    is_absence x ≡ neighbours_fit x
unfolding is_absence all_of
absence_on x a b c one d =
    rw (
      le-leb 40 (length x) a,
      eq-eqb (field 0 4 x) (length x) b,
      eq-eqb (field 4 2 x) 17 c,
      le-leb 1 (flags x) one,
      le-leb (flags x) 3 d,
    )
    (and_true (neighbours_fit x))

-- what the form says of the lengths
pub presence_whole : (x : Bytes) → is_presence x ≡ true → length x ≡ 72 + 33 * step_count x
unfolding is_presence
presence_whole x e = eqb-true _ _ (all_of_tests (presence_tests x) e).1.1.1.1.0

pub absence_head_lem : (x : Bytes) → is_absence x ≡ true → 40 ≤ length x
unfolding is_absence
absence_head_lem x e = leb-true 40 (length x) (all_of_tests (absence_tests x) e).0

-- the neighbours, by the flags
pub fit_one : (x : Bytes) → flags x ≤ 2 → neighbours_fit x ≡ is_presence (drop 40 x)
unfolding neighbours_fit
fit_one x g = rw (le-leb (flags x) 2 g)

pub fit_two : (x : Bytes) → 2 < flags x → neighbours_fit x ≡ is_presence (left_part x) && is_presence (right_part x)
unfolding neighbours_fit
fit_two x f = rw (lt-leb (flags x) 2 f)

-- the neighbours of an absence proof in form
absence_fits : (x : Bytes) → is_absence x ≡ true → (1 ≤ flags x) × (flags x ≤ 3) × (neighbours_fit x ≡ true)
unfolding is_absence
absence_fits x e =
    let ts = all_of_tests (absence_tests x) e in
    (leb-true 1 (flags x) ts.1.1.1.0, leb-true (flags x) 3 ts.1.1.1.1.0, ts.1.1.1.1.1.0)

pub one_there : (x : Bytes) → is_absence x ≡ true → flags x ≤ 2 → is_presence (drop 40 x) ≡ true
one_there x e g = sym (fit_one x g) ∙ (absence_fits x e).2

-- two neighbours, where the flags are neither 1 nor 2
pub above_two : (x : Bytes) → is_absence x ≡ true → (flags x ≡ 1 → ⊥) → (flags x ≡ 2 → ⊥) → 2 < flags x
above_two x e p q = let one = (absence_fits x e).0 in omega arith

module _ (x : Bytes) (e : is_absence x ≡ true) (f : 2 < flags x) where
  pub flags_both : flags x ≡ 3
  flags_both = let t = (absence_fits x e).1 in omega arith

  both_fit : is_presence (left_part x) && is_presence (right_part x) ≡ true
  both_fit = sym (fit_two x f) ∙ (absence_fits x e).2

  pub left_there : is_presence (left_part x) ≡ true
  left_there = and_left (is_presence (left_part x)) (is_presence (right_part x)) both_fit

  pub right_there : is_presence (right_part x) ≡ true
  right_there = and_right (is_presence (left_part x)) (is_presence (right_part x)) both_fit

  pub both_room : 112 + left_length x ≤ length x
  unfolding right_part
  both_room = omega (arith, presence_whole (right_part x) right_there, length-drop (40 + left_length x) x)

-- too short for a second neighbour
right_short : (x : Bytes) → length x < 112 + left_length x → length (right_part x) < 72
unfolding right_part
right_short x h = simp length-drop (omega arith)

pub fit_short : (x : Bytes) → 2 < flags x → length x < 112 + left_length x → neighbours_fit x ≡ false
fit_short x f h =
    fit_two x f
    ∙ rw (presence_off (right_part x) 0 (lt-leb 72 (length (right_part x)) (right_short x h))) (and_false (is_presence (left_part x)))

-- the parts of the lent bytes
pub rest_part : (k : ℕ) (x : Bytes) → take (length x - k) (drop k x) ≡ drop k x
rest_part k x = take_all (length x - k) (drop k x) (simp length-drop (omega arith))

pub left_part_lem : (l : ℕ) (x : Bytes) → l ≡ left_length x → take (40 + l - 40) (drop 40 x) ≡ left_part x
unfolding left_part slice
left_part_lem l x e = rw (add-sub_cancel_left 40 l, e)

pub right_part_lem : (l : ℕ) (x : Bytes) → l ≡ left_length x → take (length x - (40 + l)) (drop (40 + l) x) ≡ right_part x
unfolding right_part
right_part_lem l x e = rest_part (40 + l) x ∙ ap (λ (k : ℕ). drop (40 + k) x) e
