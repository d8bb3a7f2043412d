-- Document 02, 2026-02: what writing and reading a message promise, in the words of their contracts. Assumes nothing.
use Rattle.std.specs.Prelude.{ℕ, ◌≤◌, ◌≡◌, ◌↔◌, true, List, ◌∷◌, ◌++◌, map, length, take, drop}
use Rattle.terms.specs.Bits.{Bytes, All}
use Rattle.terms.specs.Fields.{le, num}
use Rattle.terms.specs.Records.{Proof}
use Rattle.meaning.specs.Answers.{found_bytes}
use Rattle.sha256.specs.Sha256.{sha256}
use Rattle.messages.specs.Message.{most_bytes}
use Rattle.messages.specs.Parts.{asked_in, leaves_in, two_leaves, StandsIn}
use Rattle.message_rules.specs.Contracts.{Encodes, record_of, Lends, answer_bytes}
use Rattle.partner.specs.Ours.{partner_accepts, verdict_of}
use Rattle.contracts.specs.Contracts.{Verifies, WritesMessage, ReadsMessage}

-- A partner's check, ICS 23's with our ProofSpec, and ours agree on the message of a proof q of which x is our record.
pub record PartnerAgrees (x : Bytes) (q : Proof) : Type 0 where
  -- the partner accepts it under a root, for the key that it is about, exactly if ours accepts the record under it
  pub agrees : {root f g : Bytes} {r : ℕ} → Verifies root (sha256 (asked_in q).bytes) x f r g →
      (partner_accepts sha256 root q ≡ true) ↔ (r ≡ 0)
  -- and then with that answer: present with the value's hash, or absent
  pub found : {root f g : Bytes} → Verifies root (sha256 (asked_in q).bytes) x f 0 g →
      g ≡ found_bytes (verdict_of sha256 q)

-- The record x was written as a message, lent raw keys and values: it stands in the room t, and g says how long it is.
pub record MessageGiven (x asked : Bytes) (leaves : List Bytes) (t g : Bytes) : Type 0 where
  -- it is the message of a proof whose record is x and whose raw keys and values are those lent
  pub proof : Proof
  pub encodes : Encodes x (take (num g) t) proof
  pub lends : Lends x asked leaves proof
  pub at_most : num g ≤ most_bytes proof
  -- reading gives back what was written: our record byte for byte, and where the raw keys and values stand
  pub given_back : {room f u h : Bytes} {r : ℕ} → length x ≤ length room →
      ReadsMessage (take (num g) t) room f r u h → (r ≡ 0) × (u ≡ x ++ drop (length x) room) × (h ≡ answer_bytes proof)
  pub stands : All (StandsIn (take (num g) t)) (asked_in proof ∷ leaves_in proof)
  -- the reading is accepted exactly when our own record would be
  pub accepted : {room f u h root k a b : Bytes} {r n : ℕ} → length x ≤ length room →
      ReadsMessage (take (num g) t) room f r u h → Verifies root k (take (length x) u) a n b ↔ Verifies root k x a n b
  pub partner : PartnerAgrees x proof

-- The bytes m were read as a message: the room was left as t, and g says first how long our own record of it is.
pub record MessageTaken (m t g : Bytes) : Type 0 where
  -- they are the message of a proof with raw keys and values, of which our own record stands in the room
  pub proof : Proof
  pub encodes : Encodes (take (num (take 4 g)) t) m proof
  -- what is read was written so: the record, lent the raw keys and values that the message holds, makes the message
  pub written_so : {room f t₁ g₁ : Bytes} {r : ℕ} → length m ≤ length room →
      WritesMessage (record_of proof) (asked_in proof).bytes (map (λ p. p.bytes) (two_leaves proof)) room f r t₁ g₁ →
      (r ≡ 0) × (t₁ ≡ m ++ drop (length m) room) × (g₁ ≡ le 4 (length m))
  pub partner : PartnerAgrees (take (num (take 4 g)) t) proof
