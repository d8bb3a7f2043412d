-- `rescue_root::newest_root` meets its contract: the best so far against the slots to come. Assumes nothing.
use Rattle.rescue_root.proofs.Newest.{Best}
use Rattle.rescue_root.proofs.newest_root.Given as goal

abbrev pub invariant-loop-i : goal.invariant-loop-i
invariant-loop-i l = Best l.source l.version l.i-end l.best l.above l.i
