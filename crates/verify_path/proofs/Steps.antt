-- The steps of a path as loops take them: from the leaf upwards, and off the tops. A step's bytes lie 33 apart after the head.
-- Assumes nothing.
use Prim.Native.Nat.{ℕ, zero, suc, ◌+◌, ◌*◌, ◌-◌, ◌<◌, ◌≤◌, min}
use native.Mathlib.Omega.{arith}
use mathlib.Core.Path.{◌≡◌, refl, ap, ap₂, ◌∙◌}
use mathlib.Core.Bool.{Bool, true, false, cond, beq, ◌&&◌}
use mathlib.Core.List.{List, [], ◌∷◌, ◌++◌, reverse}
use lib.ListN.{length, get_or, take, drop, length-take, length-drop}
use lib.Seq.{drop-drop, take-take, take-add, drop_at}
use lib.Dec.{eqb}
use Rattle.terms.specs.Bits.{Bytes, Side, same_bytes}
use Rattle.terms.specs.Fields.{slice}
use Rattle.terms.specs.Records.{Step, zeros}
use Rattle.meaning.specs.Checking.{keeps_to, outermost, same_step, part_from_top, paths_part}
use Rattle.shown.proofs.Paths.{part_by_tops}
use Rattle.proofrecords.specs.ProofBytes.{steps_in}
use Rattle.proofrecords.specs.Steps.{step_at, first_steps}
use Rattle.proofrecords.proofs.Lying.{first_at, from_step, next_step, one_less, none_left}
use Rattle.hash.specs.Hash.{Fits}
use Rattle.hash.proofs.Laws.{same_by_numbers}
use Rattle.verify_path.specs.declared.Step as declared
use Rattle.verify_path.specs.Paths.{step_of, apart_at}

-- the step at the front of bytes
abbrev front_step : Bytes → Step
front_step y = record { side = eqb (get_or y 0 0) 1; sibling = slice 1 32 y }

step_there : (i : ℕ) (x : Bytes) → front_step (drop (72 + 33 * i) x) ≡ step_at i x
unfolding step_at slice
step_there i x =
    ap₂ (λ (b : ℕ) (y : Bytes). record { side = eqb b 1; sibling = take 32 y }) (first_at (72 + 33 * i) x) (drop-drop 1 (72 + 33 * i) x)

-- the steps that are left at step i
pub steps_left : (i n : ℕ) (x : Bytes) → i < n → steps_in (n - i) (from_step i x) ≡ step_at i x ∷ steps_in (n - (i + 1)) (from_step (i + 1) x)
steps_left i n x h = rw (one_less i n h) (ap₂ ◌∷◌ (step_there i x) (ap (steps_in (n - (i + 1))) (next_step i x)))

pub no_steps_left : (i n : ℕ) (x : Bytes) → n ≤ i → steps_in (n - i) (from_step i x) ≡ []
no_steps_left i n x h = rw (none_left i n h)

pub outermost_off : (b : Side) (i n : ℕ) (x : Bytes) → i < n → keeps_to b (step_at i x) ≡ false → outermost b (steps_in (n - i) (from_step i x)) ≡ false
outermost_off b i n x h e = ap (outermost b) (steps_left i n x h) ∙ rw e

pub outermost_on : (b : Side) (i n : ℕ) (x : Bytes) → i < n → keeps_to b (step_at i x) ≡ true →
    outermost b (steps_in (n - i) (from_step i x)) ≡ outermost b (steps_in (n - (i + 1)) (from_step (i + 1) x))
outermost_on b i n x h e = ap (outermost b) (steps_left i n x h) ∙ rw e

-- a step from what the code reads of it
pub keeps_side : (b : Bool) {r : Bool} (s : Step) → r ≡ s.side → beq r b ≡ true → keeps_to b s ≡ true
unfolding keeps_to
keeps_side b s e h = rw (← e, h)

pub keeps_zero : (b : Bool) {r : Bool} (s : Step) → r ≡ s.side → beq r b ≡ false → keeps_to b s ≡ same_bytes s.sibling zeros
unfolding keeps_to
keeps_zero b s e h = rw (← e, h)

-- steps are equal in side and sibling exactly if what is read of them is
pub steps_equal : (x y : declared.Step) {s t : Step} → step_of x ≡ s → step_of y ≡ t → Fits x.sibling → Fits y.sibling → (b : Bool) →
    b ≡ (beq x.right y.right && (eqb x.sibling.a y.sibling.a && (eqb x.sibling.b y.sibling.b && (eqb x.sibling.c y.sibling.c && eqb x.sibling.d y.sibling.d)))) →
    b ≡ same_step s t
unfolding same_step
steps_equal x y e d f g b q =
    q ∙ ap (λ c. beq x.right y.right && c) (same_by_numbers x.sibling y.sibling f g _ refl) ∙ ap₂ (λ s t. beq s.side t.side && same_bytes s.sibling t.sibling) e d

-- the last of the steps in bytes
last_step : (n : ℕ) (y : Bytes) → steps_in (suc n) y ≡ steps_in n y ++ (front_step (drop (33 * n) y) ∷ [])
last_step zero y = refl
last_step (suc n) y =
    let e : 33 + 33 * n ≡ 33 * suc n = omega arith in
    let d : drop (33 * n) (drop 33 y) ≡ drop (33 * suc n) y = rw (← e) (drop-drop (33 * n) 33 y) in
    ap (front_step y ∷◌) (last_step n (drop 33 y) ∙ ap (λ (z : Bytes). steps_in n (drop 33 y) ++ (front_step z ∷ [])) d)

top_step : (n : ℕ) (x : Bytes) → first_steps (suc n) x ≡ first_steps n x ++ (step_at n x ∷ [])
top_step n x =
    last_step n (drop 72 x) ∙ ap (λ (s : Step). first_steps n x ++ (s ∷ [])) (ap front_step (drop-drop (33 * n) 72 x) ∙ step_there n x)

tops_part : (i j : ℕ) (x y : Bytes) → (i ≡ 0 → ⊥) → (j ≡ 0 → ⊥) →
    paths_part (first_steps i x) (first_steps j y)
    ≡ cond (same_step (step_at (i - 1) x) (step_at (j - 1) y)) (paths_part (first_steps (i - 1) x) (first_steps (j - 1) y)) (apart_at (i - 1) x (j - 1) y)
tops_part zero j x y p q = absurd (p refl)
tops_part (suc i) zero x y p q = absurd (q refl)
tops_part (suc i) (suc j) x y p q =
    rw (suc_less i, suc_less j) (ap₂ paths_part (top_step i x) (top_step j y) ∙ part_by_tops (step_at i x) (step_at j y) (first_steps i x) (first_steps j y))
  where
    suc_less : (n : ℕ) → suc n - 1 ≡ n
    suc_less n = omega arith

-- the loop of the comparison: i steps of one path and j of the other are left
pub equal_tops : (i j : ℕ) (x y : Bytes) → (i ≡ 0 → ⊥) → (j ≡ 0 → ⊥) → same_step (step_at (i - 1) x) (step_at (j - 1) y) ≡ true →
    paths_part (first_steps i x) (first_steps j y) ≡ paths_part (first_steps (i - 1) x) (first_steps (j - 1) y)
equal_tops i j x y p q e = tops_part i j x y p q ∙ rw e

pub other_tops : (i j : ℕ) (x y : Bytes) → (i ≡ 0 → ⊥) → (j ≡ 0 → ⊥) → same_step (step_at (i - 1) x) (step_at (j - 1) y) ≡ false →
    paths_part (first_steps i x) (first_steps j y) ≡ apart_at (i - 1) x (j - 1) y
other_tops i j x y p q e = tops_part i j x y p q ∙ rw e

none_from : (xs : List Step) → part_from_top xs [] ≡ false
none_from [] = refl
none_from (x ∷ xs) = refl

-- one of the paths has no step left
pub no_tops : (i j : ℕ) (x y : Bytes) → min i j ≡ 0 → paths_part (first_steps i x) (first_steps j y) ≡ false
unfolding paths_part
no_tops zero j x y e = refl
no_tops (suc i) zero x y e = none_from (reverse (first_steps (suc i) x))
no_tops (suc i) (suc j) x y e = absurd (omega arith)

-- the key and the value of a presence proof, as the 64 bytes of a grant
pub grant_at_lem : (x : Bytes) → 72 ≤ length x → (take 32 (take 64 (drop 8 x)) ≡ slice 8 32 x) × (drop 32 (take 64 (drop 8 x)) ≡ slice 40 32 x)
unfolding slice
grant_at_lem x h =
    let y : Bytes = drop 8 x in (
      take-take 32 64 y (omega arith),
      ap (drop 32) (take-add 32 32 y)
          ∙ drop_at (take 32 y) (take 32 (drop 32 y)) 32 (simp (length-take, length-drop) (omega arith))
          ∙ ap (take 32) (drop-drop 32 8 x),
    )
