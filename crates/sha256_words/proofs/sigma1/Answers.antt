-- Two rotations and a shift, as the definition has them.
-- Assumes nothing.
use Rattle.sha256_words.specs.Words.{σ₁}
use Rattle.sha256_words.proofs.sigma1.Goals as goal

pub returns : goal.returns
unfolding σ₁
returns c = cc
