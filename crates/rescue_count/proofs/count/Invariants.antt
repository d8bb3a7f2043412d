-- `rescue_count::count` meets its contract: the slots from i on are counted. Assumes nothing.
use Rattle.rescue_count.proofs.Counting.{Counted}
use Rattle.rescue_count.proofs.count.Given as goal

abbrev pub invariant-loop-i : goal.invariant-loop-i
invariant-loop-i l = Counted l.source l.target l.initial.i l.c l.i
