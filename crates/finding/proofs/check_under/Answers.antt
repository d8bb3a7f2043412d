-- `finding::check_under` meets its contract: the bytes are those of the root. Assumes nothing.
use mathlib.Core.Path.{refl, ap, ◌∙◌}
use lib.ListN.{replicate}
use Rattle.hash.specs.Hash.{hash_bytes}
use Rattle.hash.proofs.Laws.{put_over, hash_whole}
use Rattle.verify_rules.specs.Reading.{verified}
use Rattle.finding.proofs.Judging.{sizes_right}
use Rattle.finding.proofs.check_under.Goals as goal

pub returns : goal.returns
returns c =
    c.verify.ensures
    ∙ ap (λ y. verified y c.args.key.now c.args.proof.now) (put_over c.args.root (replicate 32 0) _ refl c.put_hash.ensures)
    ∙ sizes_right (hash_bytes c.args.root) c.args.key.now c.args.proof.now (hash_whole c.args.root).0 c.requires
