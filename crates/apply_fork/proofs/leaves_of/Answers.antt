-- `apply_fork::leaves_of` meets its contract, by the case of the node. Assumes nothing.
use native.Mathlib.Omega.{arith}
use Rattle.apply_outcome.proofs.Saying.{inner_few, inner_leaves}
use Rattle.apply_fork.proofs.leaves_of.Goals as goal

pub overflow_add-result : goal.overflow_add-result
overflow_add-result c = omega (arith, inner_few c.args.node c.in-Inner.is c.requires)

pub returns-in-Inner : goal.returns-in-Inner
returns-in-Inner c = inner_leaves c.args.node c.in-Inner.is
