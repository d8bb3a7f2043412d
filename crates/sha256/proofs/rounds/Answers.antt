-- Four times sixteen rounds are 64.
-- Assumes nothing.
use Rattle.sha256.proofs.Rolling.{four_times}
use Rattle.sha256.proofs.rounds.Goals as goal

pub returns : goal.returns
returns c =
    four_times _ _ _ _ _ _ _ _ _ c.rounds1.ensures.0 c.rounds2.ensures.0 c.rounds3-r.ensures.0
    c.rounds0.ensures c.rounds1.ensures.1 c.rounds2.ensures.1 c.rounds3-r.ensures.1
