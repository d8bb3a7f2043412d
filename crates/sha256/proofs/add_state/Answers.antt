-- Eight sums, as the definition has them.
-- Assumes nothing.
use Rattle.sha256.specs.Sha256.{added}
use Rattle.sha256.proofs.add_state.Goals as goal

pub returns : goal.returns
unfolding added
returns c = cc
