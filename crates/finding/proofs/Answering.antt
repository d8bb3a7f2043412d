-- What the call answers, test by test: whether the proof tells the truth, the version, the key and the store. Assumes nothing.
use Prim.Native.Nat.{ℕ}
use mathlib.Core.Path.{◌≡◌, refl, sym, ◌∙◌, subst}
use mathlib.Core.Bool.{true, false, cond}
use mathlib.Core.Option.{Option}
use lib.ListN.{length}
use Rattle.terms.specs.Bits.{Bytes, Byte, All}
use Rattle.terms.specs.Records.{Proof}
use Rattle.meaning.specs.Calls.{Answer, refused, is_kept}
use Rattle.sha256.specs.Sha256.{sha256}
use Rattle.proofrecords.specs.ProofBytes.{proof_in}
use Rattle.layout.specs.Stores.{store_of}
use Rattle.promises.specs.Calls.{SoundBytes}
use Rattle.forgery.specs.Messages.{node_messages, checked_messages}
use Rattle.forgery.specs.Finding.{Finding, nothing, says, all_true, searched, finding}
use Rattle.finding_rules.specs.Call.{FoundIn}
use Rattle.finding_rules.specs.Reading.{no_grant, found_against, finds}
use Rattle.finding_rules.proofs.Told.{kept_of, read_is_found}
use Rattle.forged_truth.specs.Truth.{SoundVersion, grants_at}
use Rattle.contracts.specs.Finds.{Answers, sound_store}

-- a proof that tells the truth, or the search
module _ (s : Bytes) (v : ℕ) (p : Proof) where
  pub truth_told : all_true (grants_at s v) (says p) ≡ true → nothing ≡ finding sha256 (store_of s) v p
  unfolding finding
  truth_told e = sym (rw e refl)

  pub lie_searched : {f : Finding} → all_true (grants_at s v) (says p) ≡ false →
      f ≡ searched sha256 (node_messages v (store_of s).slots) (checked_messages sha256 p) → f ≡ finding sha256 (store_of s) v p
  unfolding finding
  lie_searched e f = f ∙ sym (rw e refl)

-- the version
module _ (s : Bytes) (v : ℕ) (k : Bytes) (o : Option Proof) where
  pub none_held : no_grant (grants_at s v) ≡ true → refused 14 ≡ cond (no_grant (grants_at s v)) (refused 14) (found_against sha256 (store_of s) v k o)
  none_held e = sym (rw e refl)

  pub some_held : {a : Answer Finding} → no_grant (grants_at s v) ≡ false → a ≡ found_against sha256 (store_of s) v k o →
      a ≡ cond (no_grant (grants_at s v)) (refused 14) (found_against sha256 (store_of s) v k o)
  some_held e f = f ∙ sym (rw e refl)

  pub not_kept : is_kept (store_of s) v ≡ false → refused 8 ≡ finds sha256 v k o (store_of s)
  unfolding finds
  not_kept e = sym (rw e refl)

  pub kept_found : {a : Answer Finding} → is_kept (store_of s) v ≡ true →
      a ≡ cond (no_grant (grants_at s v)) (refused 14) (found_against sha256 (store_of s) v k o) → a ≡ finds sha256 v k o (store_of s)
  unfolding finds
  kept_found e f = f ∙ sym (rw e refl)

pub version_kept : {s : Bytes} (v : ℕ) → SoundBytes s → is_kept (store_of s) v ≡ true → SoundVersion s v
version_kept {s} v w e = record { sound = w; kept = kept_of (store_of s) v e }

-- the store
pub answered : (s : Bytes) (v : ℕ) (k x : Bytes) → SoundBytes s → All Byte x → length k ≡ 32 → (a : Answer Finding) →
    a ≡ finds sha256 v k (proof_in x) (store_of s) → Answers s v k x a
answered s v k x w bytes l a e = sound_store l w (subst (FoundIn sha256 (store_of s) v k x) (sym e) (read_is_found sha256 (store_of s) v k x bytes))
