-- The proof check and that of the pocket profile by reading the bytes, test after test, as rooms of code promise them
-- to each other. No public promise reaches this file. Assumes nothing.
use Rattle.std.specs.Prelude.{Bool, false, cond, ◌&&◌, not, length, eqb}
use Rattle.std.proofs.Math.Option.{Option, none, some}
use Rattle.terms.specs.Bits.{Bytes}
use Rattle.terms.specs.Records.{Proof}
use Rattle.meaning.specs.Calls.{Answer, refused}
use Rattle.meaning.specs.Reading.{Verdict}
use Rattle.meaning.specs.Checking.{checked}
use Rattle.pocket.specs.Pocket.{small}
use Rattle.pocket.specs.Checking.{pocket_checked}
use Rattle.nodehash.specs.Node.{leaf_hash, inner_hash}
use Rattle.proofrecords.specs.ProofBytes.{proof_in}

-- 10 if there is no proof in form; else the proof holds, or 11.
abbrev pub judged : Bytes → Bytes → Option Proof → Answer Verdict
judged root k none = refused 10
judged root k (some p) = checked leaf_hash inner_hash root k p

-- 12 if the root or the key isn't 32 bytes; else 10, 11, "present" with the value, or "absent".
unfoldable pub verified : Bytes → Bytes → Bytes → Answer Verdict
verified root k x = cond (eqb (length root) 32 && eqb (length k) 32) (judged root k (proof_in x)) (refused 12)

-- 10 if there is no proof in form; else 19 outside the profile, or what the proof says, or 11.
abbrev pub pocket_judged : Bytes → Bytes → Option Proof → Answer Verdict
pocket_judged root k none = refused 10
pocket_judged root k (some p) = pocket_checked leaf_hash inner_hash root k p

-- 12 if the root or the key isn't 32 bytes; else 10, 19, 11, "present" with the value, or "absent".
unfoldable pub pocket_verified : Bytes → Bytes → Bytes → Answer Verdict
pocket_verified root k x =
    cond (eqb (length root) 32 && eqb (length k) 32) (pocket_judged root k (proof_in x)) (refused 12)

-- A proof in form that is outside the profile.
abbrev pub outside_of : Option Proof → Bool
outside_of none = false
outside_of (some p) = not (small p)

unfoldable pub outside : Bytes → Bool
outside x = outside_of (proof_in x)
