-- `move_put::put_store` meets its contract: each turn of the loop writes one slot more. Assumes nothing.
use Rattle.move_put.proofs.Putting.{Putting}
use Rattle.move_put.proofs.put_store.Given as goal

abbrev pub invariant-loop-i : goal.invariant-loop-i
invariant-loop-i l = Putting l.from l.to l.source l.counts l.initial.target l.target l.n l.i
