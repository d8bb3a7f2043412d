-- `apply_ready::count_free` meets its contract: each slot is passed once. Assumes nothing.
use Rattle.apply_ready.proofs.Counting.{Counted}
use Rattle.apply_ready.proofs.count_free.Given as goal

abbrev pub invariant-loop-i : goal.invariant-loop-i
invariant-loop-i l = Counted l.store l.n l.free l.i
