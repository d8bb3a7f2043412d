-- `apply_step::at_child`, `at_inner` and `at_node` meet their contracts: each is the step of the definition, by the steps below it. Assumes nothing.
use Prim.Native.Nat.{◌+◌, ◌*◌, ◌-◌}
use Rattle.apply_step.proofs.+at_child_at_inner_at_node.Given as goal

abbrev pub decreases-at_child : goal.decreases-at_child
decreases-at_child l = (256 - l.place.count) * 3 + 2

abbrev pub decreases-at_inner : goal.decreases-at_inner
decreases-at_inner l = (256 - l.place.count) * 3

abbrev pub decreases-at_node : goal.decreases-at_node
decreases-at_node l = (256 - l.place.count) * 3 + 1
