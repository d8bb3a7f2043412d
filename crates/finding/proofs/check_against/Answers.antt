-- `finding::check_against` meets its contract: the root read is the hash of the tree. Assumes nothing.
use mathlib.Core.Path.{ap, ◌∙◌}
use Rattle.proofrecords.specs.ProofBytes.{proof_in}
use Rattle.verify_rules.specs.Reading.{judged}
use Rattle.forged_truth.proofs.Reading.{sound_size}
use Rattle.finding.proofs.Rooted.{root_not_refused, root_is}
use Rattle.finding.proofs.check_against.Goals as goal

pub root_hash-read-requires : goal.root_hash-read-requires
root_hash-read-requires c = sound_size c.requires.0.sound

pub returns-in-Err : goal.returns-in-Err
returns-in-Err c = root_not_refused c.requires.0 c.root_hash-read.result c.root_hash-read.ensures c.in-Err.is

pub returns-in-Ok : goal.returns-in-Ok
returns-in-Ok c =
    c.check_under.ensures
    ∙ ap (λ y. judged y c.args.key.now (proof_in c.args.proof.now)) (root_is c.requires.0 c.root_hash-read.result c.root_hash-read.ensures c.in-Ok.is)
