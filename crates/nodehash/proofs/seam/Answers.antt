-- The definition computes to the code.
-- Assumes nothing.
use mathlib.Core.Path.{refl}
use Rattle.nodehash.specs.Words.{seam_word}
use Rattle.nodehash.proofs.seam.Goals as goal

pub returns : goal.returns
unfolding seam_word
returns c = refl
