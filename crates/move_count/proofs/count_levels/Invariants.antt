-- `move_count::count_levels` meets its contract: level by level. Assumes nothing.
use Rattle.move_count.specs.Count.{CountedFrom}
use Rattle.move_count.proofs.count_levels.Given as goal

abbrev pub invariant-loop-level : goal.invariant-loop-level
invariant-loop-level l = CountedFrom l.store l.counts l.level
