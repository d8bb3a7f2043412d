-- `check_tie::tie_all` meets its contract slot by slot. Assumes nothing.
use Rattle.check_tie.proofs.Loops.{Going}
use Rattle.check_tie.proofs.tie_all.Given as goal

abbrev pub invariant-loop-j : goal.invariant-loop-j
invariant-loop-j l = Going l.form l.store l.n l.initial.sums l.sums l.known l.j
