-- `index_look::ascending` meets its contract: the entries before k ascend. Assumes nothing.
use Rattle.index_look.specs.Looks.{Ascending}
use Rattle.index_look.proofs.ascending.Given as goal

abbrev pub invariant-loop-k : goal.invariant-loop-k
invariant-loop-k l = Ascending l.store l.table l.k
