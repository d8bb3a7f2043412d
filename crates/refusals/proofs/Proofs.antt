-- Rows 10 and 11: what the proof check answers to a root and a key of 32 bytes is what they deserve. Assumes nothing.
use mathlib.Core.Path.{refl, subst}
use mathlib.Core.Logic.{inl, inr}
use mathlib.Core.List.{[], ◌∷◌}
use lib.ListN.{drop}
use Rattle.terms.specs.Bits.{Bytes}
use Rattle.terms.specs.Records.{Proof}
use Rattle.meaning.specs.Calls.{Answer}
use Rattle.meaning.specs.Reading.{Verdict}
use Rattle.meaning.specs.Answers.{number_of}
use Rattle.checker.specs.Holding.{Holds}
use Rattle.nodehash.specs.Node.{leaf_hash, inner_hash}
use Rattle.proofrecords.specs.ProofBytes.{ProofIs}
use Rattle.proofrecords.proofs.Proofs.{one_proof_is}
use Rattle.verify_rules.specs.Verify.{Judged, holding, not_holding}
use Rattle.refusals.specs.Tables.{DoesNotHold, verify_rows}
use Rattle.refusals.proofs.Parts.{Row}
use Rattle.refusals.proofs.Exactly.{First}

-- Where both rows are deserved at once, the answer is the number of the one that is tested first.
ten_before_eleven : (root k x : Bytes) → Row 10 (verify_rows root k x) → First (drop 1 (verify_rows root k x)) 10
ten_before_eleven root k x a = inl (a, refl)

-- row 11, by what is said of the proof that the bytes are
pub judged_first : {root k x : Bytes} (p : Proof) {a : Answer Verdict} → ProofIs x p → Judged root k p a → First ((11, DoesNotHold root k x) ∷ []) (number_of a)
judged_first p is (not_holding n) = inl ((p, is, n), refl)
judged_first {root} {k} {x} p is (holding {v} h) =
    inr (λ d. d.2 v (subst (λ q. Holds leaf_hash inner_hash root k q v) (one_proof_is x p d.0 is d.1) h), refl)
