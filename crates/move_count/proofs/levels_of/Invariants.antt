-- `move_count::levels_of` meets its contract: slot by slot. Assumes nothing.
use Rattle.move_count.specs.Count.{Leveled}
use Rattle.move_count.proofs.levels_of.Given as goal

abbrev pub invariant-loop-i : goal.invariant-loop-i
invariant-loop-i l = Leveled l.store l.levels l.i
