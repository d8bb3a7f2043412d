-- Four times sixteen rounds are 64.
-- Assumes nothing.
use Rattle.sha256.proofs.Rolling.{four_times}
use Rattle.sha256_eight.proofs.lane_rounds.Goals as goal

pub returns : goal.returns
returns c =
    four_times _ _ _ _ _ _ _ _ _ c.lane1.ensures.0 c.lane2.ensures.0 c.lane3-r.ensures.0
    c.lane0.ensures c.lane1.ensures.1 c.lane2.ensures.1 c.lane3-r.ensures.1
