-- `message_record::put_steps` meets its contract: a step a turn. Assumes nothing.
use Rattle.message_record.proofs.Stepping.{Stepping}
use Rattle.message_record.proofs.put_steps.Given as goal

abbrev pub invariant-loop-i : goal.invariant-loop-i
invariant-loop-i l = Stepping l.x l.path l.at l.initial.room l.room l.from l.i
