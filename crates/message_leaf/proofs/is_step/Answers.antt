-- `message_leaf::is_step` meets its contract: an inner op of ours says a step. Assumes nothing.
use Rattle.message_leaf.proofs.Walking.{step_by_some}
use Rattle.message_leaf.proofs.is_step.Goals as goal

pub returns : goal.returns
returns c = step_by_some c.inner_op.result c.inner_op.ensures c.is_some.ensures
