-- `prove_paths::put_steps` meets its contract: a step a turn, from the end of the path upwards. Assumes nothing.
use Rattle.prove_paths.proofs.Writing.{Steps}
use Rattle.prove_paths.proofs.put_steps.Given as goal

abbrev pub invariant-loop-depth : goal.invariant-loop-depth
invariant-loop-depth l = Steps l.store l.slots l.bits l.fn.path.place.count l.part l.depth l.start
