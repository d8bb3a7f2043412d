-- What is told of bytes is one answer alone, and it is what reading them gives: bytes that are read as a proof are it, and a proof is accepted exactly
-- if it holds. Assumes nothing.
use native.Mathlib.Omega.{arith}
use Prim.Native.Nat.{ℕ}
use mathlib.Core.Path.{◌≡◌, refl, ap, sym, ◌∙◌, subst}
use mathlib.Core.Logic.{◌↔◌}
use mathlib.Core.Bool.{Bool, true, false, cond, ◌&&◌, false≢true}
use mathlib.Core.Option.{Option, none, some}
use lib.ListN.{length}
use lib.Dec.{eqb}
use borrow.Author.Tests.{eq-eqb, eqb-true}
use Rattle.terms.specs.Bits.{Bytes, Byte, All}
use Rattle.terms.specs.Records.{Proof}
use Rattle.terms.proofs.Tests.{and_left, and_right}
use Rattle.meaning.specs.Calls.{Answer, refused, accepted}
use Rattle.meaning.specs.Reading.{Verdict}
use Rattle.meaning.specs.Checking.{checked}
use Rattle.meaning.specs.Answers.{found_bytes, Exported}
use Rattle.meaning.proofs.Told.{exports}
use Rattle.checker.proofs.Theorems.{accepted_exactly_if_holds, refused_with_11}
use Rattle.nodehash.specs.Node.{leaf_hash, inner_hash}
use Rattle.proofrecords.specs.ProofBytes.{proof_in}
use Rattle.proofrecords.proofs.Proofs.{proof_is, no_proof_is, one_proof_is}
use Rattle.pocket.specs.Pocket.{small}
use Rattle.pocket.proofs.Theorems.{inside_they_agree, outside_is_refused, not_both_sides}
use Rattle.verify_rules.specs.Verify.{Judged, holding, not_holding, Sizes32, Told, not_32_bytes, not_in_form, in_form, Verifies}
use Rattle.verify_rules.specs.Pocket.{PocketJudged, outside, inside, PocketVerifies}
use Rattle.verify_rules.specs.Reading.{judged, verified, pocket_judged, pocket_verified}

-- What is said of a proof for a key against a root.
abbrev Judgement : Type 1
Judgement = Bytes → Bytes → Proof → Answer Verdict → Type 0

-- One answer alone is told of any bytes, if one alone is said of any proof.
one_told : (said : Judgement) (root k x : Bytes) →
    ((p : Proof) (a b : Answer Verdict) → said root k p a → said root k p b → a ≡ b) → (a b : Answer Verdict) → Told said root k x a → Told said root k x b → a ≡ b
one_told said root k x one _ _ (not_32_bytes n) (not_32_bytes m) = refl
one_told said root k x one _ _ (not_32_bytes n) (not_in_form s m) = absurd (n s)
one_told said root k x one _ b (not_32_bytes n) (in_form s w h) = absurd (n s)
one_told said root k x one _ _ (not_in_form s n) (not_32_bytes m) = absurd (m s)
one_told said root k x one _ _ (not_in_form s n) (not_in_form t m) = refl
one_told said root k x one _ b (not_in_form s n) (in_form {p} t w h) = absurd (n p w)
one_told said root k x one a _ (in_form s w h) (not_32_bytes m) = absurd (m s)
one_told said root k x one a _ (in_form {p} s w h) (not_in_form t m) = absurd (m p w)
one_told said root k x one a b (in_form {p} s v h) (in_form {p = q} t w l) =
    one q a b (subst (λ y. said root k y a) (one_proof_is x p q v w) h) l

-- What is read is told, by a function that answers of a proof what is said of it.
read_is_told : (said : Judgement) (root k x : Bytes) (answer : Option Proof → Answer Verdict) → answer none ≡ refused 10 →
    ((p : Proof) → said root k p (answer (some p))) → All Byte x →
    Told said root k x (cond (eqb (length root) 32 && eqb (length k) 32) (answer (proof_in x)) (refused 12))
read_is_told said root k x answer no-form right bytes = go (eqb (length root) 32 && eqb (length k) 32) refl
  where
    of_form : Sizes32 root k → (o : Option Proof) → proof_in x ≡ o → Told said root k x (answer o)
    of_form s none e = subst (Told said root k x) (sym no-form) (not_in_form s (no_proof_is x e))
    of_form s (some p) e = in_form s (proof_is x bytes p e) (right p)

    go : (b : Bool) → eqb (length root) 32 && eqb (length k) 32 ≡ b → Told said root k x (cond b (answer (proof_in x)) (refused 12))
    go true e =
        of_form (eqb-true _ _ (and_left (eqb (length root) 32) _ e), eqb-true _ _ (and_right (eqb (length root) 32) _ e)) (proof_in x) refl
    go false e = not_32_bytes (λ s. false≢true (sym e ∙ rw (eq-eqb (length root) 32 s.0, eq-eqb (length k) 32 s.1)))

-- What is said of a proof is what the test of it answers,
module _ (root k : Bytes) (p : Proof) where
  judged_so : (a : Answer Verdict) → checked leaf_hash inner_hash root k p ≡ a → Judged root k p a
  judged_so (accepted v) e = holding ((accepted_exactly_if_holds leaf_hash inner_hash root k p v).0 e)
  judged_so (refused n) e =
      subst (λ m. Judged root k p (refused m)) (sym (refused_with_11 leaf_hash inner_hash root k p e))
      (not_holding (λ v h. differ (sym e ∙ (accepted_exactly_if_holds leaf_hash inner_hash root k p v).1 h)))
    where
      differ : {v : Verdict} → ◌≡◌ {A = Answer Verdict} (refused n) (accepted v) → ⊥
      differ z = let y : ◌≡◌ {A = ℕ} 0 1 = cc in omega arith

  so_judged : (a : Answer Verdict) → Judged root k p a → a ≡ checked leaf_hash inner_hash root k p
  so_judged _ (holding {v} h) = sym ((accepted_exactly_if_holds leaf_hash inner_hash root k p v).1 h)
  so_judged _ (not_holding n) = go (checked leaf_hash inner_hash root k p) refl
    where
      go : (b : Answer Verdict) → checked leaf_hash inner_hash root k p ≡ b → refused 11 ≡ b
      go (accepted v) e = absurd (n v ((accepted_exactly_if_holds leaf_hash inner_hash root k p v).0 e))
      go (refused m) e = ap refused (sym (refused_with_11 leaf_hash inner_hash root k p e))

  pub judged_exactly : (a : Answer Verdict) → Judged root k p a ↔ (a ≡ checked leaf_hash inner_hash root k p)
  judged_exactly a = (so_judged a, λ e. judged_so a (sym e))

  -- and so in the profile.
  pocket_judged_so : PocketJudged root k p (pocket_judged root k (some p))
  pocket_judged_so = go (small p) refl
    where
      go : (b : Bool) → small p ≡ b → PocketJudged root k p (pocket_judged root k (some p))
      go true e =
          subst (PocketJudged root k p) (sym (inside_they_agree leaf_hash inner_hash root k p e))
          (inside (not_both_sides p e) (judged_so (checked leaf_hash inner_hash root k p) refl))
      go false e = subst (PocketJudged root k p) (sym (outside_is_refused leaf_hash inner_hash root k p e)) (outside e)

  so_pocket_judged : (a : Answer Verdict) → PocketJudged root k p a → a ≡ pocket_judged root k (some p)
  so_pocket_judged _ (outside o) = go (small p) refl
    where
      go : (b : Bool) → small p ≡ b → refused 19 ≡ pocket_judged root k (some p)
      go true e = absurd (not_both_sides p e o)
      go false e = sym (outside_is_refused leaf_hash inner_hash root k p e)
  so_pocket_judged a (inside n h) = go (small p) refl
    where
      go : (b : Bool) → small p ≡ b → a ≡ pocket_judged root k (some p)
      go true e = so_judged a h ∙ sym (inside_they_agree leaf_hash inner_hash root k p e)
      go false e = absurd (n e)

module _ (root k x : Bytes) where
  -- One answer alone is told by the full check, and it is what is read;
  pub one_verdict : (a b : Answer Verdict) → Told Judged root k x a → Told Judged root k x b → a ≡ b
  one_verdict = one_told Judged root k x (λ p a b h l. so_judged root k p a h ∙ sym (so_judged root k p b l))

  verified_told : All Byte x → Told Judged root k x (verified root k x)
  unfolding verified
  verified_told = read_is_told Judged root k x (judged root k) refl (λ p. judged_so root k p (judged root k (some p)) refl)

  pub told_exactly : All Byte x → (a : Answer Verdict) → Told Judged root k x a ↔ (a ≡ verified root k x)
  told_exactly bytes a = (
    λ t. one_verdict a (verified root k x) t (verified_told bytes),
    λ e. subst (Told Judged root k x) (sym e) (verified_told bytes),
  )

  -- and so by that of the profile.
  pub one_pocket_verdict : (a b : Answer Verdict) → Told PocketJudged root k x a → Told PocketJudged root k x b → a ≡ b
  one_pocket_verdict =
      one_told PocketJudged root k x (λ p a b h l. so_pocket_judged root k p a h ∙ sym (so_pocket_judged root k p b l))

  pocket_told : All Byte x → Told PocketJudged root k x (pocket_verified root k x)
  unfolding pocket_verified
  pocket_told = read_is_told PocketJudged root k x (pocket_judged root k) refl (pocket_judged_so root k)

  pub pocket_told_exactly : All Byte x → (a : Answer Verdict) → Told PocketJudged root k x a ↔ (a ≡ pocket_verified root k x)
  pocket_told_exactly bytes a = (
    λ t. one_pocket_verdict a (pocket_verified root k x) t (pocket_told bytes),
    λ e. subst (Told PocketJudged root k x) (sym e) (pocket_told bytes),
  )

-- So a call that answers what is read meets its contract.
pub verifies : {root k x f g : Bytes} {r : ℕ} → All Byte x → Exported (verified root k x) found_bytes f r g → Verifies root k x f r g
verifies {root} {k} {x} bytes e = exports (verified root k x) (verified_told root k x bytes) e

pub pocket_verifies : {root k x f g : Bytes} {r : ℕ} → All Byte x → Exported (pocket_verified root k x) found_bytes f r g → PocketVerifies root k x f r g
pocket_verifies {root} {k} {x} bytes e = exports (pocket_verified root k x) (pocket_told root k x bytes) e
