-- The digest is written over all 32 bytes.
-- Assumes nothing.
use mathlib.Core.Path.{refl, ◌∙◌}
use Rattle.hash.proofs.Laws.{put_over}
use borrow.Author.Rules.{rules}
use Rattle.sha256_c.proofs.grants_sha256.Goals as goal

pub returns : goal.returns
returns c = record { value = refl; digest_after = put_over _ c.args.digest.now _ (search rules) c.put_hash.ensures ∙ c.digest.ensures }
