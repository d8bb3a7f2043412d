-- A shelf is a list of stores under one root: grants whose keys begin with the same bits are in one store, its part;
-- the list is a store too, with the root of each part that has a grant. Here: the proof of a key, and its check.
use Rattle.std.specs.Prelude.{ℕ, ◌≤◌, ◌<◌, ◌≡◌, ◌++◌, take}
use Rattle.terms.specs.Bits.{Bytes, bits, pack}
use Rattle.terms.specs.Records.{Presence, Absence, Proof, presence, absence}
use Rattle.meaning.specs.Calls.{Answer, refused, accepted}
use Rattle.meaning.specs.Reading.{Verdict, present, absent}
use Rattle.meaning.specs.Answers.{found_bytes, Exports}
use Rattle.checker.specs.Holding.{Holds}
use Rattle.nodehash.specs.Node.{leaf_hash, inner_hash}
use Rattle.proofrecords.specs.ProofBytes.{ProofIs}
use Rattle.verify_rules.specs.Verify.{Sizes32}

-- A shelf has 0 to 12 bits.
abbrev pub most_bits : ℕ
most_bits = 12

-- The key of a part in the list: the bits that its grants' keys begin with, then zeros.
unfoldable pub part_key : ℕ → Bytes → Bytes
part_key b k = pack 32 (take b (bits k))

-- The proof of a key: the list shows that its part isn't there; or it shows the part, and the part's proof follows.
pub data ShelfProof : Type 0 where
  no_part : Absence → ShelfProof
  in_part : Presence → Proof → ShelfProof

-- The bytes are one whole proof of a shelf in form, no byte over: the list's record, then the part's.
pub data ShelfIs : Bytes → ShelfProof → Type 0 where
  alone : {x : Bytes} {a : Absence} → ProofIs x (absence a) → ShelfIs x (no_part a)
  both : {x y : Bytes} {p : Presence} {q : Proof} → ProofIs x (presence p) → ProofIs y q →
      ShelfIs (x ++ y) (in_part p q)

-- It holds, with this answer: the list shows no part, so absent; or a part's root, and the second holds against that.
pub data ShelfHolds (root : Bytes) (b : ℕ) (k : Bytes) : ShelfProof → Verdict → Type 0 where
  no_part_lem : {a : Absence} → Holds leaf_hash inner_hash root (part_key b k) (absence a) absent →
      ShelfHolds root b k (no_part a) absent
  in-part : {p : Presence} {q : Proof} {part : Bytes} {answer : Verdict} →
      Holds leaf_hash inner_hash root (part_key b k) (presence p) (present part) →
      Holds leaf_hash inner_hash part k q answer → ShelfHolds root b k (in_part p q) answer

-- What is said of the bytes x as a proof of the key k of a shelf of b bits, against the list's root; rows in order.
pub data ShelfTold (root : Bytes) (b : ℕ) (k x : Bytes) : Answer Verdict → Type 0 where
  -- 12: the root or the key isn't 32 bytes
  not_32_bytes : (Sizes32 root k → ⊥) → ShelfTold root b k x (refused 12)
  -- 21: over 12 bits
  too_many_bits : Sizes32 root k → most_bits < b → ShelfTold root b k x (refused 21)
  -- 10: they are no proof in form
  not_in_form : Sizes32 root k → b ≤ most_bits → ((p : ShelfProof) → ShelfIs x p → ⊥) →
      ShelfTold root b k x (refused 10)
  -- 11: they are one that doesn't hold
  not_holding : {p : ShelfProof} → Sizes32 root k → b ≤ most_bits → ShelfIs x p →
      ((v : Verdict) → ShelfHolds root b k p v → ⊥) → ShelfTold root b k x (refused 11)
  -- else "present" with the value, or "absent"
  holding : {p : ShelfProof} {v : Verdict} → Sizes32 root k → b ≤ most_bits → ShelfIs x p → ShelfHolds root b k p v →
      ShelfTold root b k x (accepted v)

-- Checking the bytes x so, with the array f for what is found, answers r and leaves the array as g.
abbrev pub ShelfVerifies : Bytes → ℕ → Bytes → Bytes → Bytes → ℕ → Bytes → Type 0
ShelfVerifies root b k x f r g = Exports (ShelfTold root b k x) found_bytes f r g
