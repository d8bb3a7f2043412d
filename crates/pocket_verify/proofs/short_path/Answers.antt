-- `pocket_verify::short_path` meets its contract: the step count is the number of steps. Assumes nothing.
use native.Mathlib.Omega.{arith}
use Rattle.proofrecords.specs.ProofBytes.{step_count}
use Rattle.proofrecords.proofs.Forms.{presence_whole}
use Rattle.pocket_verify.proofs.Paths.{steps_short}
use Rattle.pocket_verify.proofs.short_path.Goals as goal

pub get_u16-requires : goal.get_u16-requires
get_u16-requires c = let w = presence_whole c.args.p.now c.requires in omega arith

pub returns : goal.returns
unfolding step_count
returns c = steps_short c.args.p.now c.get_u16.ensures
