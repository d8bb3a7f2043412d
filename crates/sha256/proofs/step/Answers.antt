-- T1 and T2 in FIPS's order of sums.
-- Assumes nothing.
use Rattle.sha256.specs.Sha256.{round}
use Rattle.sha256.proofs.step.Goals as goal

pub returns : goal.returns
unfolding round
returns c = cc
