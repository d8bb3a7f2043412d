-- What the proof check answers against a root, and what is found by the case of its answer. Assumes nothing.
use Prim.Native.Nat.{ℕ}
use native.Mathlib.Omega.{arith}
use mathlib.Core.Path.{◌≡◌, refl, ap, ap₂, sym, ◌∙◌, subst}
use mathlib.Core.Bool.{Bool, true, false, cond}
use mathlib.Core.Option.{Option, none, some}
use lib.ListN.{length}
use borrow.Author.Tests.{eq-eqb}
use Rattle.terms.specs.Bits.{Bytes}
use Rattle.terms.specs.Records.{Presence, Absence, Proof, presence, absence, Store}
use Rattle.meaning.specs.Calls.{Answer, refused, accepted}
use Rattle.meaning.specs.Reading.{Verdict, present, absent}
use Rattle.meaning.specs.Checking.{checked}
use Rattle.shown.proofs.Theorems.{checked_present, checked_absent}
use Rattle.sha256.specs.Sha256.{sha256}
use Rattle.nodehash.specs.Node as node
use Rattle.proofrecords.specs.ProofBytes.{is_presence, presence_in, is_absence, absence_in, proof_in}
use Rattle.hash.specs.declared.Hash as declared-hash
use Rattle.verify_rules.specs.Reading.{judged, verified}
use Rattle.verify.specs.Says.{says}
use Rattle.std.specs.Prelude.{Result, Some, None, Ok, Err}
use Rattle.std.specs.declared.option.Option as option
use Rattle.refusal_numbers.specs.Refusals.{number}
use Rattle.refusal_numbers.specs.declared.Refusal.{Refusal}
use Rattle.forgery.specs.Messages.{leaf_hash, inner_hash}
use Rattle.forgery.specs.Finding.{Finding, finding}
use Rattle.finding_rules.proofs.Hashes.{leaf_is, inner_is}
use Rattle.finding_rules.specs.Reading.{version_root, found_of, found_against}

-- with a root and a key of 32 bytes the check looks at the proof
pub sizes_right : (root k x : Bytes) → length root ≡ 32 → length k ≡ 32 → verified root k x ≡ judged root k (proof_in x)
unfolding verified
sizes_right root k x r e = rw (eq-eqb (length root) 32 r, eq-eqb (length k) 32 e)

same_number : {m n : ℕ} → ◌≡◌ {A = Answer Verdict} (refused m) (refused n) → m ≡ n
same_number e = cc

not_both : {A : Type 0} {n : ℕ} {w : Verdict} → ◌≡◌ {A = Answer Verdict} (refused n) (accepted w) → A
not_both e = let z : ◌≡◌ {A = ℕ} 0 1 = cc in absurd (omega arith)

other_proof : {A : Type 0} {q : Presence} {a : Absence} → absence a ≡ presence q → A
other_proof e = let z : ◌≡◌ {A = ℕ} 0 1 = cc in absurd (omega arith)

module _ (st : Store) (v : ℕ) (k x : Bytes) where
  abbrev root : Bytes
  root = version_root sha256 st v

  -- both definitions check alike
  same_check : (p : Proof) → checked node.leaf_hash node.inner_hash root k p ≡ checked (leaf_hash sha256) (inner_hash sha256) root k p
  same_check p = ap₂ (λ f g. checked f g root k p) leaf_is inner_is

  -- a refusal is passed on
  refusal_passed : {n : ℕ} → refused n ≡ judged root k (proof_in x) → refused n ≡ found_against sha256 st v k (proof_in x)
  refusal_passed {n} = go (proof_in x)
    where
      go : (o : Option Proof) → refused n ≡ judged root k o → refused n ≡ found_against sha256 st v k o
      go none e = ap refused (same_number e)
      go (some p) e = ap (found_of sha256 st v p) (e ∙ same_check p)

  -- else there is something to look at
  accepted_found : {w : Verdict} (p : Proof) → proof_in x ≡ some p → accepted w ≡ judged root k (proof_in x) →
      accepted (finding sha256 st v p) ≡ found_against sha256 st v k (proof_in x)
  accepted_found p r e =
      ap (found_of sha256 st v p) (e ∙ ap (judged root k) r ∙ same_check p) ∙ sym (ap (found_against sha256 st v k) r)

  -- "present" is answered to a presence proof alone, and "absent" to an absence proof
  present_is : {y : Bytes} → accepted (present y) ≡ judged root k (proof_in x) → is_presence x ≡ true
  unfolding proof_in
  present_is {y} = go (is_presence x) (is_absence x)
    where
      go : (a b : Bool) → accepted (present y) ≡ judged root k (cond a (some (presence (presence_in x))) (cond b (some (absence (absence_in x))) none)) → a ≡ true
      go true b e = refl
      go false true e = other_proof (checked_present node.leaf_hash node.inner_hash root k y (absence (absence_in x)) (sym e)).1
      go false false e = not_both (sym e)

  absent_is : accepted absent ≡ judged root k (proof_in x) → (is_presence x ≡ false) × (is_absence x ≡ true)
  unfolding proof_in
  absent_is = go (is_presence x) (is_absence x)
    where
      go : (a b : Bool) → accepted absent ≡ judged root k (cond a (some (presence (presence_in x))) (cond b (some (absence (absence_in x))) none)) →
          (a ≡ false) × (b ≡ true)
      go true b e = other_proof (sym (checked_absent node.leaf_hash node.inner_hash root k (presence (presence_in x)) (sym e)).1)
      go false true e = (refl, refl)
      go false false e = not_both (sym e)

  as_presence : is_presence x ≡ true → proof_in x ≡ some (presence (presence_in x))
  unfolding proof_in
  as_presence p = rw p

  as_absence : is_presence x ≡ false → is_absence x ≡ true → proof_in x ≡ some (absence (absence_in x))
  unfolding proof_in
  as_absence p a = rw (p, a)

  -- the same by the case of the code's answer
  module _ (c : Result (option.Option declared-hash.Hash) Refusal) (answered : says c ≡ judged root k (proof_in x)) where
    pub refusal_found : {r : Refusal} → c ≡ Err r → refused (number r) ≡ found_against sha256 st v k (proof_in x)
    refusal_found e = refusal_passed (sym (ap says e) ∙ answered)

    pub present_is_presence : {h : declared-hash.Hash} → c ≡ Ok (Some h) → is_presence x ≡ true
    present_is_presence e = present_is (sym (ap says e) ∙ answered)

    pub absent_is_absence : c ≡ Ok None → is_absence x ≡ true
    absent_is_absence e = (absent_is (sym (ap says e) ∙ answered)).1

    pub present_found : {h : declared-hash.Hash} {f : Finding} → c ≡ Ok (Some h) → f ≡ finding sha256 st v (presence (presence_in x)) →
        accepted f ≡ found_against sha256 st v k (proof_in x)
    present_found e g =
        ap accepted g ∙ accepted_found (presence (presence_in x)) (as_presence (present_is_presence e)) (sym (ap says e) ∙ answered)

    pub absent_found : {f : Finding} → c ≡ Ok None → f ≡ finding sha256 st v (absence (absence_in x)) →
        accepted f ≡ found_against sha256 st v k (proof_in x)
    absent_found e g =
        let a = absent_is (sym (ap says e) ∙ answered) in
        ap accepted g ∙ accepted_found (absence (absence_in x)) (as_absence a.0 a.1) (sym (ap says e) ∙ answered)
