-- `message_lent::path_size` meets its contract: a step a turn. Assumes nothing.
use Rattle.message_lent.proofs.Lengths.{Sizing}
use Rattle.message_lent.proofs.path_size.Given as goal

abbrev pub invariant-loop-i : goal.invariant-loop-i
invariant-loop-i l = Sizing l.n l.p l.i l.size
