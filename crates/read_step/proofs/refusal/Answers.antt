-- `read_step::refusal` meets its contract, by the case. Assumes nothing.
use mathlib.Core.Path.{ap, sym}
use Rattle.meaning.specs.Reading.{beside, refusal_of}
use Rattle.read_step.specs.Walk.{trouble_says}
use Rattle.read_step.proofs.refusal.Goals as goal

pub returns-in-Spoilt : goal.returns-in-Spoilt
unfolding beside
returns-in-Spoilt c = ap (λ t. refusal_of (trouble_says t)) (sym c.in-Spoilt.is)
