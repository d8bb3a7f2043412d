-- The definition computes to the code.
-- Assumes nothing.
use mathlib.Core.Path.{refl}
use Rattle.nodehash.specs.Words.{middle_word}
use Rattle.nodehash.proofs.middle.Goals as goal

pub returns : goal.returns
unfolding middle_word
returns c = refl
