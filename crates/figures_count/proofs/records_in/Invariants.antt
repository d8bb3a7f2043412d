-- `figures_count::records_in` meets its contract: the slots from i on are counted. Assumes nothing.
use Rattle.figures_count.proofs.Backward.{Backward}
use Rattle.figures_count.proofs.Records.{Living}
use Rattle.figures_count.proofs.records_in.Given as goal

abbrev pub invariant-loop-i : goal.invariant-loop-i
invariant-loop-i l = Backward l.store (Living l.first l.last l.records) l.n l.i
