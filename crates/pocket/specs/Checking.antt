-- Document 02, request 2026-14: the pocket checker as it is tested. No public promise reaches this file. Assumes
-- nothing.
use Rattle.std.specs.Prelude.{cond}
use Rattle.terms.specs.Bits.{Bytes}
use Rattle.terms.specs.Records.{Proof}
use Rattle.meaning.specs.Calls.{Answer, refused}
use Rattle.meaning.specs.Reading.{Verdict}
use Rattle.meaning.specs.Checking.{checked}
use Rattle.pocket.specs.Pocket.{small}

-- Of a proof in form: 19, before 11; else what the full one says.
module _ (leaf_hash inner_hash : Bytes → Bytes → Bytes) where
  unfoldable pub pocket_checked : Bytes → Bytes → Proof → Answer Verdict
  pocket_checked root k p = cond (small p) (checked leaf_hash inner_hash root k p) (refused 19)
