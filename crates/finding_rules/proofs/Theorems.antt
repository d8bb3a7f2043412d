-- Document 02, request 2026-12: what an accepted call means, for any hash of 32 bytes. The version is kept and the proof holds; `forgery` says the
-- rest. Assumes nothing.
use Prim.Native.Nat.{ℕ}
use mathlib.Core.Path.{◌≡◌}
use lib.ListN.{length}
use Rattle.terms.specs.Bits.{Bytes}
use Rattle.terms.specs.Records.{Proof, Store}
use Rattle.meaning.specs.Sound.{Kept, Sound}
use Rattle.meaning.specs.Reading.{Verdict}
use Rattle.checker.proofs.Theorems.{accepted_exactly_if_holds}
use Rattle.proofrecords.specs.ProofBytes.{ProofForm}
use Rattle.forgery.specs.Messages.{leaf_hash, inner_hash}
use Rattle.forgery.specs.Finding.{finding}
use Rattle.forgery.proofs.Theorems as forgery
use Rattle.finding_rules.specs.Call.{HoldsAt}
use Rattle.finding_rules.specs.Reading.{version_root}
use Rattle.finding_rules.specs.Claims.{FoundOut}

-- What is found of a proof that holds means what 02 asks.
module _ (H : Bytes → Bytes) (st : Store) (v : ℕ) (k : Bytes) (hash32 : (m : Bytes) → length (H m) ≡ 32) (ok : Sound (leaf_hash H) (inner_hash H) st)
    (kept : Kept st v) where
  pub holding_is_found_out : (p : Proof) (a : Verdict) → ProofForm p → HoldsAt H st v k p a → FoundOut H st v k p a (finding H st v p)
  holding_is_found_out p a form holds =
      let e = (accepted_exactly_if_holds (leaf_hash H) (inner_hash H) (version_root H st v) k p a).1 holds in
      record {
        false_is_found = forgery.false_is_found H hash32 st ok v kept k p a form e;
        false_answer_is_found = forgery.false_answer_is_found H hash32 st ok v kept k p a form e;
        named_is_a_finding = forgery.finding_holds H hash32 st ok v kept p;
        of_65_bytes = forgery.messages_have_65_bytes H hash32 st ok v kept p form;
        true_is_nothing = forgery.true_is_nothing H hash32 st ok v kept p;
        nothing_is_true = forgery.nothing_is_true H hash32 st ok v kept k p a form e;
      }
