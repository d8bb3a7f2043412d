-- The steps of a path there and back, 33 bytes each. Assumes nothing.
use Prim.Native.Nat.{ℕ, zero, suc, ◌+◌, ◌*◌, ◌≤◌}
use native.Mathlib.Omega.{arith}
use mathlib.Core.Path.{◌≡◌, refl, ap, ap₂, sym, ◌∙◌}
use mathlib.Core.Bool.{true, false}
use mathlib.Core.List.{List, [], ◌∷◌, ◌++◌, append_assoc}
use lib.ListN.{length, get_or, drop, length-append, length-drop, take-append-drop}
use lib.Seq.{take_at, drop_at}
use lib.Dec.{eqb, leb}
use borrow.Author.Tests.{leb-true}
use Rattle.terms.specs.Bits.{Bytes, Byte, All, Side, digit}
use Rattle.terms.specs.Fields.{slice}
use Rattle.terms.specs.Records.{Step}
use Rattle.terms.proofs.Tests.{and_left, and_right}
use Rattle.terms.proofs.Lists.{all_drop}
use Rattle.terms.proofs.Fields.{length_slice, all_slice}
use Rattle.proofrecords.specs.ProofBytes.{step_size, steps_bytes, steps_in, sides_right, StepForm}

digit_side : (b : Side) → eqb (digit b) 1 ≡ b
digit_side true = refl
digit_side false = refl

side_digit : (x : ℕ) → x ≤ 1 → digit (eqb x 1) ≡ x
side_digit zero h = refl
side_digit (suc zero) h = refl
side_digit (suc (suc x)) h = absurd (omega arith)

digit_right : (b : Side) → leb (digit b) 1 ≡ true
digit_right true = refl
digit_right false = refl

pub length_steps : (steps : List Step) → All StepForm steps → length (steps_bytes steps) ≡ step_size * length steps
length_steps [] h = refl
length_steps (s ∷ steps) h =
    let l = h.0.0 in
    simp length-append (omega (arith, length_steps steps h.1))

-- steps that were written are read back, whatever follows
pub steps_back : (steps : List Step) (ys : Bytes) → All StepForm steps → steps_in (length steps) (steps_bytes steps ++ ys) ≡ steps
unfolding slice
steps_back [] ys h = refl
steps_back (s ∷ steps) ys h =
    rw (
      append_assoc s.sibling (steps_bytes steps) ys,
      take_at s.sibling (steps_bytes steps ++ ys) 32 h.0.0,
      drop_at s.sibling (steps_bytes steps ++ ys) 32 h.0.0,
      digit_side s.side,
      steps_back steps ys h.1,
    )

pub sides_written : (steps : List Step) (ys : Bytes) → All StepForm steps → sides_right (length steps) (steps_bytes steps ++ ys) ≡ true
sides_written [] ys h = refl
sides_written (s ∷ steps) ys h =
    rw (
      append_assoc s.sibling (steps_bytes steps) ys,
      drop_at s.sibling (steps_bytes steps ++ ys) 32 h.0.0,
      digit_right s.side,
    )
    (sides_written steps ys h.1)

-- a step's bytes
step_bytes_lem : (x : Bytes) → step_size ≤ length x → leb (get_or x 0 0) 1 ≡ true → (digit (eqb (get_or x 0 0) 1) ∷ slice 1 32 x) ++ drop step_size x ≡ x
unfolding slice
step_bytes_lem [] h t = absurd (omega arith)
step_bytes_lem (b ∷ x) h t = ap₂ ◌∷◌ (side_digit b (leb-true b 1 t)) (take-append-drop 32 x)

-- bytes with sides 0 and 1 are the bytes of their steps
pub steps_are : (n : ℕ) (x : Bytes) → length x ≡ step_size * n → sides_right n x ≡ true → steps_bytes (steps_in n x) ≡ x
steps_are zero x l h = sym (empty x l)
  where
    empty : (y : Bytes) → length y ≡ 0 → y ≡ []
    empty [] e = refl
    empty (b ∷ y) e = absurd (omega arith)
steps_are (suc n) x l h =
    let t = and_left (leb (get_or x 0 0) 1) (sides_right n (drop step_size x)) h in
    let r = and_right (leb (get_or x 0 0) 1) (sides_right n (drop step_size x)) h in
    ap ((digit (eqb (get_or x 0 0) 1) ∷ slice 1 32 x) ++◌) (steps_are n (drop step_size x) (simp length-drop (omega arith)) r)
    ∙ step_bytes_lem x (omega arith) t

pub length_steps_in : (n : ℕ) (x : Bytes) → length (steps_in n x) ≡ n
length_steps_in zero x = refl
length_steps_in (suc n) x = ap suc (length_steps_in n (drop step_size x))

pub steps_form : (n : ℕ) (x : Bytes) → step_size * n ≤ length x → All Byte x → All StepForm (steps_in n x)
steps_form zero x l h = tt
steps_form (suc n) x l h = (
  (length_slice 1 32 x (omega arith), all_slice 1 32 x h),
  steps_form n (drop step_size x) (simp length-drop (omega arith)) (all_drop Byte step_size x h),
)
