-- `verify_path::is_right` meets its contract: the side is a step's first byte.
-- Assumes nothing.
use mathlib.Core.Path.{refl}
use Rattle.proofrecords.specs.Steps.{step_at}
use Rattle.verify_path.proofs.is_right.Goals as goal

pub returns : goal.returns
unfolding step_at
returns c = refl
