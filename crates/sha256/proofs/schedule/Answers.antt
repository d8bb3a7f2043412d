-- The sums in FIPS's order.
-- Assumes nothing.
use Rattle.sha256.specs.Sha256.{scheduled}
use Rattle.sha256.proofs.schedule.Goals as goal

pub returns : goal.returns
unfolding scheduled
returns c = cc
