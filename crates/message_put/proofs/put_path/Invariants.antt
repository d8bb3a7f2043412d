-- `message_put::put_path` meets its contract: a step a turn. Assumes nothing.
use Rattle.message_put.proofs.Parts.{Pathing}
use Rattle.message_put.proofs.put_path.Given as goal

abbrev pub invariant-loop-i : goal.invariant-loop-i
invariant-loop-i l = Pathing l.n l.p l.at l.initial.room l.room l.i l.next
