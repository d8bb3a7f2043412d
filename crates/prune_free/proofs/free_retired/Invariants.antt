-- `prune_free::free_retired` meets its contract: each turn of the loop prunes one slot more. Assumes nothing.
use Rattle.prune_free.proofs.Freeing.{Freeing}
use Rattle.prune_free.proofs.free_retired.Given as goal

abbrev pub invariant-loop-i : goal.invariant-loop-i
invariant-loop-i l = Freeing l.version l.initial.store l.store l.slots l.freed l.i
