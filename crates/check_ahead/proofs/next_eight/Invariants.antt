-- `check_ahead::next_eight` meets its contract: those that wait fit the store, link by link. Assumes nothing.
use Rattle.check_ahead.proofs.Waiting.{Looking}
use Rattle.check_ahead.proofs.next_eight.Given as goal

abbrev pub invariant-loop-w : goal.invariant-loop-w
invariant-loop-w l = Looking l.form l.store l.many l.slots l.links
