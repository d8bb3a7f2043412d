-- `apply_answer::made_answer` meets its contract, as it is written. Assumes nothing.
use mathlib.Core.Path.{refl}
use Rattle.apply_answer.specs.Answers.{applied_says}
use Rattle.apply_answer.proofs.made_answer.Goals as goal

pub returns : goal.returns
unfolding applied_says
returns c = refl
