-- Row 19, of the pocket check after 10 and before 11, of the pocket prover before 9: what the definitions answer is what the rows deserve. Assumes nothing.
use Prim.Native.Nat.{ℕ}
use mathlib.Core.Path.{◌≡◌, refl, sym, ◌∙◌, subst}
use mathlib.Core.Logic.{inl, inr}
use mathlib.Core.Bool.{Bool, true, false, cond}
use mathlib.Core.List.{[], ◌∷◌}
use lib.ListN.{length, drop}
use Rattle.terms.specs.Bits.{Bytes}
use Rattle.terms.specs.Records.{Proof}
use Rattle.meaning.specs.Calls.{Answer, refused, accepted}
use Rattle.meaning.specs.Reading.{Verdict}
use Rattle.meaning.specs.Answers.{number_of}
use Rattle.meaning.specs.Proving.{proof, fitted}
use Rattle.ways.proofs.Walking.{Formed}
use Rattle.proofrecords.specs.ProofBytes.{ProofIs}
use Rattle.proofrecords.proofs.Proofs.{one_proof_is}
use Rattle.layout.specs.Stores.{store_of}
use Rattle.pocket.specs.Pocket.{Outside, small, in_profile, pocket_prove}
use Rattle.pocket.proofs.Theorems.{not_both_sides}
use Rattle.verify_rules.specs.Pocket.{PocketJudged, outside, inside}
use Rattle.refusals.specs.Exactly.{Table}
use Rattle.ways.specs.Ways.{ProofStopped}
use Rattle.refusals.specs.Tables.{OutsidePocket, DoesNotHold, ProvedOutside, TooLong, pocket_verify_rows}
use Rattle.refusals.proofs.Parts.{Row, proving_rows}
use Rattle.refusals.proofs.Exactly.{First}
use Rattle.refusals.proofs.Stopped.{Stopped}
use Rattle.refusals.proofs.Proofs.{judged_first}
use Rattle.refusals.proofs.Walks.{same_proof, proof_stopped, fits_first}

-- Where two neighbouring rows are deserved at once, the answer is the number of the one that is tested first.
module _ (root k x : Bytes) where
  abbrev rows : Table
  rows = drop 1 (pocket_verify_rows root k x)

  ten_before_nineteen : Row 10 rows → First rows 10
  ten_before_nineteen a = inl (a, refl)

  nineteen_before_eleven : (Row 10 rows → ⊥) → Row 19 rows → Row 11 rows → First rows 19
  nineteen_before_eleven form a b = inr (form, inl (a, refl))

-- the check, by what is said of the proof that the bytes are
pub pocket_judged_first : {root k x : Bytes} (p : Proof) {a : Answer Verdict} → ProofIs x p → PocketJudged root k p a →
    First ((19, OutsidePocket x) ∷ (11, DoesNotHold root k x) ∷ []) (number_of a)
pocket_judged_first p is (outside o) = inl ((p, is, o), refl)
pocket_judged_first {x = x} p is (inside n h) =
    inr (λ o. n (subst Outside (one_proof_is x o.0 p o.1 is) o.2), judged_first p is h)

-- the prover
module _ (s : Bytes) (formed : Formed (store_of s)) (v : ℕ) (k room : Bytes) where
  abbrev later : Table
  later = (19, ProvedOutside s v k) ∷ (9, TooLong s v k room) ∷ []

  pocket_given : (p : Proof) → proof (store_of s) v k ≡ accepted p → First later (number_of (fitted (length room) (in_profile (accepted p))))
  pocket_given p e = go (small p) refl
    where
      go : (b : Bool) → small p ≡ b → First later (number_of (fitted (length room) (cond b (accepted p) (refused 19))))
      go false f = inl ((p, e, f), refl)
      go true f =
          inr (λ o. not_both_sides p f (subst Outside (same_proof s formed v k (sym o.1 ∙ e)) o.2), fits_first s formed v k room p e)

  pub pocket_stopped : Stopped (proving_rows s v) later (ProofStopped (store_of s) v k) (number_of (pocket_prove (store_of s) v k (length room)))
  unfolding pocket_prove
  pocket_stopped = proof_stopped s formed v k later (λ a. fitted (length room) (in_profile a)) (λ n. refl) pocket_given
