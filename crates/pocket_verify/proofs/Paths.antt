-- The steps of each leaf that a proof in form shows, counted where they lie. Assumes nothing.
use Prim.Native.Nat.{ℕ, ◌≤◌, ◌<◌}
use native.Mathlib.Omega.{arith}
use mathlib.Core.Path.{◌≡◌, refl, ap, sym, ◌∙◌}
use mathlib.Core.Bool.{Bool, true, false, ◌&&◌, true≢false}
use lib.ListN.{drop}
use lib.Dec.{eqb, leb}
use borrow.Author.Tests.{eq-eqb, ne_eqb, eqb-true}
use Rattle.terms.specs.Bits.{Bytes}
use Rattle.terms.specs.Records.{absence}
use Rattle.terms.proofs.Tests.{and_true}
use Rattle.proofrecords.specs.ProofBytes.{presence_in, step_count, flags, left_part, right_part, is_absence, absence_in}
use Rattle.proofrecords.proofs.Steps.{length_steps_in}
use Rattle.proofrecords.proofs.Forms.{above_two, flags_both}
use Rattle.pocket.specs.Pocket.{short_path, small}

-- the step count is the number of steps
pub steps_short : {n : ℕ} (x : Bytes) → n ≡ step_count x → leb n 32 ≡ short_path (presence_in x)
unfolding short_path presence_in
steps_short x e = ap (λ m. leb m 32) (e ∙ sym (length_steps_in (step_count x) (drop 72 x)))

-- an absence proof shows one neighbour, on either side, or two
module _ (x : Bytes) (whole : is_absence x ≡ true) where
  pub one_short : flags x ≤ 2 → short_path (presence_in (drop 40 x)) ≡ small (absence (absence_in x))
  unfolding absence_in
  one_short h = go (eqb (flags x) 1) (eqb (flags x) 2) refl refl
    where
      go : (a b : Bool) → eqb (flags x) 1 ≡ a → eqb (flags x) 2 ≡ b → short_path (presence_in (drop 40 x)) ≡ small (absence (absence_in x))
      go true b e f =
          let one = eqb-true (flags x) 1 e in
          sym (rw (eq-eqb (flags x) 1 one, ne_eqb (flags x) 2 (λ z. omega arith), ne_eqb (flags x) 3 (λ z. omega arith)) (and_true (short_path (presence_in (drop 40 x)))))
      go false true e f =
          let two = eqb-true (flags x) 2 f in
          sym (rw (ne_eqb (flags x) 1 (λ z. omega arith), eq-eqb (flags x) 2 two, ne_eqb (flags x) 3 (λ z. omega arith)) refl)
      go false false e f =
          absurd (omega (arith, h, above_two x whole (λ z. true≢false (sym (eq-eqb (flags x) 1 z) ∙ e)) (λ z. true≢false (sym (eq-eqb (flags x) 2 z) ∙ f))))

  both_short : 2 < flags x → small (absence (absence_in x)) ≡ short_path (presence_in (left_part x)) && short_path (presence_in (right_part x))
  unfolding absence_in
  both_short h =
      let three = flags_both x whole h in
      rw (ne_eqb (flags x) 1 (λ z. omega arith), ne_eqb (flags x) 2 (λ z. omega arith), eq-eqb (flags x) 3 three) refl

  module _ (h : 2 < flags x) where
    pub left_long : short_path (presence_in (left_part x)) ≡ false → false ≡ small (absence (absence_in x))
    left_long e = sym (both_short h ∙ rw e refl)

    pub right_decides : short_path (presence_in (left_part x)) ≡ true → short_path (presence_in (right_part x)) ≡ small (absence (absence_in x))
    right_decides e = sym (both_short h ∙ rw e refl)
