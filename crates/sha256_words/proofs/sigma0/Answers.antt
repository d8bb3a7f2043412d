-- Two rotations and a shift, as the definition has them.
-- Assumes nothing.
use Rattle.sha256_words.specs.Words.{σ₀}
use Rattle.sha256_words.proofs.sigma0.Goals as goal

pub returns : goal.returns
unfolding σ₀
returns c = cc
