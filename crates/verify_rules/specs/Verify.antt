-- Document 01, 'Checking', with the refusals 10, 11 and 12: the proof check, over any bytes. Assumes nothing.
use Rattle.std.specs.Prelude.{ℕ, ◌≡◌, length}
use Rattle.terms.specs.Bits.{Bytes}
use Rattle.terms.specs.Records.{Proof}
use Rattle.meaning.specs.Calls.{Answer, refused, accepted}
use Rattle.meaning.specs.Reading.{Verdict}
use Rattle.meaning.specs.Answers.{found_bytes, Exports}
use Rattle.checker.specs.Holding.{Holds}
use Rattle.nodehash.specs.Node.{leaf_hash, inner_hash}
use Rattle.proofrecords.specs.ProofBytes.{ProofIs}

-- What is said of a proof for the key k against a root: it holds, with this answer, or 11.
pub data Judged (root k : Bytes) (p : Proof) : Answer Verdict → Type 0 where
  holding : {v : Verdict} → Holds leaf_hash inner_hash root k p v → Judged root k p (accepted v)
  not_holding : ((v : Verdict) → Holds leaf_hash inner_hash root k p v → ⊥) → Judged root k p (refused 11)

-- The root and the key have 32 bytes.
abbrev pub Sizes32 : Bytes → Bytes → Type 0
Sizes32 root k = (length root ≡ 32) × (length k ≡ 32)

-- What is said of the bytes x: 12 for other sizes, 10 if x is no proof in form, else what is said of the proof.
pub data Told (say : Bytes → Bytes → Proof → Answer Verdict → Type 0) (root k x : Bytes) : Answer Verdict → Type 0 where
  not_32_bytes : (Sizes32 root k → ⊥) → Told say root k x (refused 12)
  not_in_form : Sizes32 root k → ((p : Proof) → ProofIs x p → ⊥) → Told say root k x (refused 10)
  in_form : {p : Proof} {a : Answer Verdict} → Sizes32 root k → ProofIs x p → say root k p a → Told say root k x a

-- Checking the bytes x as a proof of the key k against a root answers r; the array f for what is found is left as g.
abbrev pub Verifies : Bytes → Bytes → Bytes → Bytes → ℕ → Bytes → Type 0
Verifies root k x f r g = Exports (Told Judged root k x) found_bytes f r g
