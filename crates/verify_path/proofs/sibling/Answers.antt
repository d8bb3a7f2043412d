-- `verify_path::sibling` meets its contract: the sibling stands after the side.
-- Assumes nothing.
use Rattle.terms.specs.Fields.{slice}
use Rattle.proofrecords.specs.Steps.{step_at}
use Rattle.verify_path.proofs.sibling.Goals as goal

pub returns : goal.returns
unfolding step_at slice
returns c = c.hash_at.ensures.result_value
