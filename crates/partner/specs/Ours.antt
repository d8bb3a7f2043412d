-- Document 02, 2026-02: our ProofSpec, and what a partner who is told it says of a message of ours. Assumes nothing.
use Rattle.std.specs.Prelude.{ℕ, Bool, true, [], ◌∷◌, ◌++◌}
use Rattle.std.proofs.Math.Option.{map}
use Rattle.terms.specs.Bits.{Bytes}
use Rattle.terms.specs.Records.{Proof, presence, absence, zeros}
use Rattle.meaning.specs.Reading.{Verdict, present, absent}
use Rattle.messages.specs.Message.{our_leaf, existence_of}
use Rattle.partner.specs.Verifying.{ProofSpec, existence_holds, non_existence_holds}

-- Two children of 32 bytes, left then right, after a prefix of one byte, by SHA-256; keys are compared after hashing.
abbrev pub our_spec : ProofSpec
our_spec = record {
  leaf_spec = our_leaf;
  child_order = 0 ∷ 1 ∷ [];
  child_size = 32;
  min_prefix_length = 1;
  max_prefix_length = 1;
  empty_child = zeros;
  inner_hash = 1;
  max_depth = 256;
  min_depth = 0;
  prehash_key_before_comparison = true;
}

module _ (sha : Bytes → Bytes) where
  -- Whether a partner accepts a message: the key with its value, or the key's absence; and what our check answers then.
  abbrev pub partner_accepts : Bytes → Proof → Bool
  partner_accepts root (presence p) = existence_holds our_spec sha root (existence_of p) p.key p.value
  partner_accepts root (absence a) = let shown = map existence_of in
      non_existence_holds our_spec sha root (shown a.leftward) (shown a.rightward) a.key

  abbrev pub verdict_of : Proof → Verdict
  verdict_of (presence p) = present (sha p.value)
  verdict_of (absence a) = absent

  -- Document 01's two hashes by it: leaf hash, of byte 1, key, value; inner hash, of byte 0, left hash, right hash.
  abbrev pub leaf_hash_by : Bytes → Bytes → Bytes
  leaf_hash_by k x = sha (1 ∷ (k ++ x))

  abbrev pub inner_hash_by : Bytes → Bytes → Bytes
  inner_hash_by l r = sha (0 ∷ (l ++ r))
