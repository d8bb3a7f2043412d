-- Document 02, request 2026-14: what the pocket checker answers to any bytes. Order: 12, 10, 19, 11. Assumes nothing.
use Rattle.std.specs.Prelude.{ℕ}
use Rattle.terms.specs.Bits.{Bytes}
use Rattle.terms.specs.Records.{Proof}
use Rattle.meaning.specs.Calls.{Answer, refused}
use Rattle.meaning.specs.Reading.{Verdict}
use Rattle.meaning.specs.Answers.{found_bytes, Exports}
use Rattle.pocket.specs.Pocket.{Outside}
use Rattle.verify_rules.specs.Verify.{Judged, Told}

-- What is said of a proof: 19 if it is outside the profile, whether it holds or not; else as in the full check.
pub data PocketJudged (root k : Bytes) (p : Proof) : Answer Verdict → Type 0 where
  outside : Outside p → PocketJudged root k p (refused 19)
  inside : {a : Answer Verdict} → (Outside p → ⊥) → Judged root k p a → PocketJudged root k p a

-- Checking the bytes x as a proof of the profile answers r; the array f for what is found is left as g.
abbrev pub PocketVerifies : Bytes → Bytes → Bytes → Bytes → ℕ → Bytes → Type 0
PocketVerifies root k x f r g = Exports (Told PocketJudged root k x) found_bytes f r g
