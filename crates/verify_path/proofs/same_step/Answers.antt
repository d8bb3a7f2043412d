-- `verify_path::same_step` meets its contract: steps that are read equal have equal bytes.
-- Assumes nothing.
use borrow.Author.Rules.{rules}
use Rattle.verify_path.proofs.Steps.{steps_equal}
use Rattle.verify_path.proofs.same_step.Goals as goal

pub returns : goal.returns
returns c = steps_equal _ _ c.step_at.ensures c.step_at-2.ensures (search rules) (search rules) c.eq.result c.eq.ensures
