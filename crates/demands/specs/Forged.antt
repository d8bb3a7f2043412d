-- Document 02, 2026-12: 'what acceptance means, whoever wrote the proof', over the contracts. Assumes nothing.
use Rattle.std.specs.Prelude.{ℕ, ◌≡◌, ◌⊎◌, ◌↔◌, List, ◌++◌, length, get_or}
use Rattle.terms.specs.Bits.{Bytes}
use Rattle.terms.specs.Fields.{slice, zero_bytes}
use Rattle.terms.specs.Records.{Proof, zeros}
use Rattle.meaning.specs.Tree.{unversioned}
use Rattle.meaning.specs.Sound.{Kept}
use Rattle.meaning.specs.Reading.{Verdict, answer_of}
use Rattle.meaning.specs.Proving.{HoldsGrant}
use Rattle.sha256.specs.Sha256.{sha256}
use Rattle.layout.specs.Stores.{store_of}
use Rattle.promises.specs.Calls.{SoundBytes}
use Rattle.refusals.specs.Tables.{root_of_version}
use Rattle.proofrecords.specs.ProofBytes.{ProofIs}
use Rattle.forgery.specs.Messages.{tree_messages, checked_messages}
use Rattle.forgery.specs.Finding.{True, Among}
use Rattle.demands.specs.Claims.{tree_of_version, grants_of_version, Accepts}

-- 131 bytes name a finding among messages: two different ones with equal SHA-256, or one whose SHA-256 is zeros.
pub data NamesFinding (messages : List Bytes) (g : Bytes) : Type 0 where
  two-equal : get_or g 0 0 ≡ 1 → Among (slice 1 65 g) messages → Among (slice 66 65 g) messages →
      (slice 1 65 g ≡ slice 66 65 g → ⊥) → sha256 (slice 1 65 g) ≡ sha256 (slice 66 65 g) → NamesFinding messages g
  one-zero : get_or g 0 0 ≡ 2 → Among (slice 1 65 g) messages → sha256 (slice 1 65 g) ≡ zeros → NamesFinding messages g

-- The messages of the version's nodes, and those hashed while checking a proof.
abbrev pub messages_of : Bytes → ℕ → Proof → List Bytes
messages_of s v p = tree_messages sha256 (unversioned (tree_of_version s v)) ++ checked_messages sha256 p

-- The call was accepted of the bytes x, as a proof for the key k in version v of the bytes s; g is what it told.
pub record Cost (s : Bytes) (v : ℕ) (k x g : Bytes) : Type 0 where
  pub sound : SoundBytes s
  pub kept : Kept (store_of s) v
  pub granted : HoldsGrant (store_of s) v
  pub answer : Verdict
  pub accepts : Accepts (root_of_version s v) k x answer
  -- if the proof says something false about that version, a finding is named, and so if the answer is false
  pub false_is_found : (True (grants_of_version s v) accepts.proof → ⊥) →
      NamesFinding (messages_of s v accepts.proof) g
  pub false_answer_is_found : (answer_of k (grants_of_version s v) ≡ answer → ⊥) →
      NamesFinding (messages_of s v accepts.proof) g
  -- a finding is named from these messages, which have 65 bytes, or none is
  pub named : NamesFinding (messages_of s v accepts.proof) g ⊎ (g ≡ zero_bytes 131)
  pub of_65_bytes : (m : Bytes) → Among m (messages_of s v accepts.proof) → length m ≡ 65
  -- none is exactly if the proof is true
  pub none_if_true : True (grants_of_version s v) accepts.proof ↔ (g ≡ zero_bytes 131)

-- Whom the bytes x deceived holds a finding.
pub record Deceived (s : Bytes) (v : ℕ) (x g : Bytes) : Type 0 where
  pub proof : Proof
  pub is_proof_lem : ProofIs x proof
  pub finding : NamesFinding (messages_of s v proof) g
