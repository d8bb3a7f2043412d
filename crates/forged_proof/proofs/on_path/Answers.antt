-- `forged_proof::on_path` meets its contract: the count in the head says how many steps there are. Assumes nothing.
use native.Mathlib.Omega.{arith}
use mathlib.Core.Path.{◌∙◌}
use Rattle.proofrecords.specs.ProofBytes.{step_count}
use Rattle.proofrecords.proofs.Forms.{presence_whole}
use Rattle.forged_path.specs.Along.{nodes_in}
use Rattle.forged_proof.proofs.Parts.{all_along}
use Rattle.forged_proof.proofs.on_path.Goals as goal

pub get_u16-n-requires : goal.get_u16-n-requires
get_u16-n-requires c = let w = presence_whole c.args.p.now c.requires.1 in omega arith

pub along-requires : goal.along-requires
unfolding step_count
along-requires c = let w = presence_whole c.args.p.now c.requires.1 in (c.requires.0, omega arith)

pub returns : goal.returns
returns c =
    let a = c.args in
    c.along.ensures ∙ all_along (nodes_in a.version a.store.now) _ a.p.now c.get_u16-n.ensures
