-- Three of the four terms are zero.
-- Assumes nothing.
use Rattle.sha256_second_start.proofs.Laws.{only_two}
use mathlib.Core.Path.{◌∙◌}
use native.Mathlib.Omega.{arith}
use Rattle.sha256_second_start.proofs.after.Goals as goal

pub returns : goal.returns
returns c = c.sigma1.ensures ∙ only_two _ (omega arith)
