-- `fields::copy` meets its contract. The loop's invariant: the first i bytes are those copied, the others as they were. Assumes nothing.
use Rattle.fields.proofs.Written.{Filling}
use Rattle.fields.proofs.copy.Given as goal

abbrev pub invariant-loop-i : goal.invariant-loop-i
invariant-loop-i l = Filling l.from l.initial.s l.s l.i
