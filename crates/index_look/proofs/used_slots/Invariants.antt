-- `index_look::used_slots` meets its contract: the slots below i are counted. Assumes nothing.
use Rattle.index_look.proofs.Entries.{Counted}
use Rattle.index_look.proofs.used_slots.Given as goal

abbrev pub invariant-loop-i : goal.invariant-loop-i
invariant-loop-i l = Counted l.store l.n l.many l.i
