-- `check_parents::parents_right` meets its contract: slot by slot, what is left of both scans. Assumes nothing.
use Rattle.check_parents.proofs.Summing.{Summed}
use Rattle.check_parents.proofs.parents_right.Given as goal

abbrev pub invariant-loop-j : goal.invariant-loop-j
invariant-loop-j l = Summed l.form l.store l.below l.n l.sum l.j
