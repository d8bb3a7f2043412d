-- Three rotations, as the definition has them.
-- Assumes nothing.
use Rattle.sha256_words.specs.Words.{Σ₀}
use Rattle.sha256_words.proofs.big_sigma0.Goals as goal

pub returns : goal.returns
unfolding Σ₀
returns c = cc
