-- `apply_place::find_free` meets its contract: no slot that was passed is free. Assumes nothing.
use Rattle.apply_place.proofs.Placing.{Passed}
use Rattle.apply_place.proofs.find_free.Given as goal

abbrev pub invariant-loop-i : goal.invariant-loop-i
invariant-loop-i l = Passed l.store l.n l.i
