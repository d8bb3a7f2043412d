-- `move_count::count_level` meets its contract: slot by slot. Assumes nothing.
use Rattle.move_count.proofs.Levels.{Counting}
use Rattle.move_count.proofs.count_level.Given as goal

abbrev pub invariant-loop-i : goal.invariant-loop-i
invariant-loop-i l = Counting l.store l.counts l.level l.i
