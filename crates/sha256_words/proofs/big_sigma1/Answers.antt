-- Three rotations, as the definition has them.
-- Assumes nothing.
use Rattle.sha256_words.specs.Words.{Σ₁}
use Rattle.sha256_words.proofs.big_sigma1.Goals as goal

pub returns : goal.returns
unfolding Σ₁
returns c = cc
