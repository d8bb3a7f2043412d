-- What a proof says by its parts: of its key, and of the neighbours by the flags. Assumes nothing.
use Prim.Native.Nat.{ℕ, ◌≤◌, ◌<◌}
use native.Mathlib.Omega.{arith}
use mathlib.Core.Path.{◌≡◌, refl, ap, sym, ◌∙◌}
use mathlib.Core.Bool.{Bool, true, false, ◌&&◌, true≢false}
use mathlib.Core.List.{List, []}
use lib.ListN.{drop}
use lib.Dec.{eqb}
use borrow.Author.Tests.{eq-eqb, ne_eqb, eqb-true}
use Rattle.terms.specs.Bits.{Bytes}
use Rattle.terms.specs.Records.{Grant, Presence, presence, absence}
use Rattle.terms.proofs.Tests.{and_true}
use Rattle.meaning.specs.Reading.{present, absent, answer_of}
use Rattle.proofrecords.specs.ProofBytes.{presence_in, flags, left_part, right_part, is_absence, absence_in}
use Rattle.proofrecords.proofs.Forms.{above_two, flags_both}
use Rattle.forgery.specs.Finding.{says, same_verdict, all_true}
use Rattle.forged_truth.specs.Truth.{leaf_true, neighbours_true}

module _ (gs : List Grant) where
  -- a presence proof shows one leaf
  pub leaf_decides : (p : Presence) → leaf_true gs p ≡ all_true gs (says (presence p))
  unfolding leaf_true
  leaf_decides p = sym (and_true (leaf_true gs p))

  module _ (x : Bytes) where
    -- an absence proof speaks of its key first
    pub key_there : same_verdict (answer_of (absence_in x).key gs) absent ≡ false → false ≡ all_true gs (says (absence (absence_in x)))
    key_there e = sym (rw e refl)

    pub neighbours_decide : same_verdict (answer_of (absence_in x).key gs) absent ≡ true →
        neighbours_true gs (absence_in x) ≡ all_true gs (says (absence (absence_in x)))
    unfolding neighbours_true
    neighbours_decide e = sym (rw e refl)

    -- and shows one neighbour, on either side, or two
    module _ (whole : is_absence x ≡ true) where
      pub one_true : flags x ≤ 2 → leaf_true gs (presence_in (drop 40 x)) ≡ neighbours_true gs (absence_in x)
      unfolding absence_in leaf_true neighbours_true
      one_true h = go (eqb (flags x) 1) (eqb (flags x) 2) refl refl
        where
          go : (a b : Bool) → eqb (flags x) 1 ≡ a → eqb (flags x) 2 ≡ b → leaf_true gs (presence_in (drop 40 x)) ≡ neighbours_true gs (absence_in x)
          go true b e f =
              let one = eqb-true (flags x) 1 e in
              sym (rw (eq-eqb (flags x) 1 one, ne_eqb (flags x) 2 (λ z. omega arith), ne_eqb (flags x) 3 (λ z. omega arith)) (and_true (leaf_true gs (presence_in (drop 40 x)))))
          go false true e f =
              let two = eqb-true (flags x) 2 f in
              sym (rw (ne_eqb (flags x) 1 (λ z. omega arith), eq-eqb (flags x) 2 two, ne_eqb (flags x) 3 (λ z. omega arith)) (and_true (leaf_true gs (presence_in (drop 40 x)))))
          go false false e f =
              absurd (omega (arith, h, above_two x whole (λ z. true≢false (sym (eq-eqb (flags x) 1 z) ∙ e)) (λ z. true≢false (sym (eq-eqb (flags x) 2 z) ∙ f))))

      both_true : 2 < flags x →
          neighbours_true gs (absence_in x) ≡ leaf_true gs (presence_in (left_part x)) && (leaf_true gs (presence_in (right_part x)) && true)
      unfolding absence_in leaf_true neighbours_true
      both_true h =
          let three = flags_both x whole h in
          rw (ne_eqb (flags x) 1 (λ z. omega arith), ne_eqb (flags x) 2 (λ z. omega arith), eq-eqb (flags x) 3 three) refl

      module _ (h : 2 < flags x) where
        pub left_false : leaf_true gs (presence_in (left_part x)) ≡ false → false ≡ neighbours_true gs (absence_in x)
        left_false e = sym (both_true h ∙ rw e refl)

        pub right_decides : leaf_true gs (presence_in (left_part x)) ≡ true → leaf_true gs (presence_in (right_part x)) ≡ neighbours_true gs (absence_in x)
        right_decides e = sym (both_true h ∙ rw e (and_true (leaf_true gs (presence_in (right_part x)))))
