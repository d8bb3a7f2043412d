-- `apply_inserts::next_insert` meets its contract: each record passed is a delete. Assumes nothing.
use Rattle.apply_inserts.proofs.Inserts.{Passing}
use Rattle.apply_inserts.proofs.next_insert.Given as goal

abbrev pub invariant-loop-i : goal.invariant-loop-i
invariant-loop-i l = Passing l.run l.from l.n l.i
