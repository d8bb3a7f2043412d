-- The hash is written over all 32 bytes; the two hashes that are read have the children's bytes.
-- Assumes nothing.
use mathlib.Core.Path.{refl, ◌∙◌}
use Rattle.hash.proofs.Laws.{put_over}
use lib.Seq.{take_all}
use borrow.Author.Rules.{rules}
use Rattle.sha256_c.proofs.grants_inner_hash.Goals as goal

pub returns : goal.returns
returns c =
    let a = c.args in
    let l = c.hash_at.ensures.result_value ∙ take_all 32 a.left.now (search rules) in
    let r = c.hash_at-2.ensures.result_value ∙ take_all 32 a.right.now (search rules) in
    record { value = refl; digest_after = put_over _ a.digest.now _ (search rules) c.put_hash.ensures ∙ rw (← l, ← r) c.inner_hash.ensures }
