-- The pocket check by its tests in their order: the lengths, then what is outside the profile, then the full check. Assumes nothing.
use mathlib.Core.Path.{◌≡◌, refl, ap, sym, ◌∙◌}
use mathlib.Core.Bool.{true, false, cond, ◌&&◌, false≢true}
use mathlib.Core.Option.{Option, none, some}
use lib.ListN.{length}
use lib.Dec.{eqb}
use borrow.Author.Tests.{eq-eqb, ne_eqb, not-true, not-false}
use Rattle.terms.specs.Bits.{Bytes}
use Rattle.terms.specs.Records.{Proof}
use Rattle.meaning.specs.Calls.{refused}
use Rattle.nodehash.specs.Node.{leaf_hash, inner_hash}
use Rattle.proofrecords.specs.ProofBytes.{proof_in}
use Rattle.pocket.specs.Pocket.{small}
use Rattle.pocket.proofs.Theorems.{inside_they_agree, outside_is_refused}
use Rattle.verify_rules.specs.Reading.{judged, verified, pocket_judged, pocket_verified, outside_of, outside}

module _ (root k x : Bytes) where
  -- 12
  pub root_off : (length root ≡ 32 → ⊥) → refused 12 ≡ pocket_verified root k x
  unfolding pocket_verified
  root_off f = rw (ne_eqb (length root) 32 f) refl

  module _ (r : length root ≡ 32) where
    pub key_off : (length k ≡ 32 → ⊥) → refused 12 ≡ pocket_verified root k x
    unfolding pocket_verified
    key_off f = rw (eq-eqb (length root) 32 r, ne_eqb (length k) 32 f) refl

    module _ (e : length k ≡ 32) where
      sizes : pocket_verified root k x ≡ pocket_judged root k (proof_in x)
      unfolding pocket_verified
      sizes = rw (eq-eqb (length root) 32 r, eq-eqb (length k) 32 e) refl

      -- 19
      pub is_outside : outside x ≡ true → refused 19 ≡ pocket_verified root k x
      unfolding outside
      is_outside h = sym (sizes ∙ go (proof_in x) h)
        where
          go : (o : Option Proof) → outside_of o ≡ true → pocket_judged root k o ≡ refused 19
          go none h = absurd (false≢true h)
          go (some p) h = outside_is_refused leaf_hash inner_hash root k p (not-true (small p) h)

-- else the full check answers
same_judged : (root k : Bytes) (o : Option Proof) → outside_of o ≡ false → pocket_judged root k o ≡ judged root k o
same_judged root k none h = refl
same_judged root k (some p) h = inside_they_agree leaf_hash inner_hash root k p (not-false (small p) h)

pub not_outside : (root k x : Bytes) → outside x ≡ false → pocket_verified root k x ≡ verified root k x
unfolding outside pocket_verified verified
not_outside root k x h = ap (λ a. cond (eqb (length root) 32 && eqb (length k) 32) a (refused 12)) (same_judged root k (proof_in x) h)
