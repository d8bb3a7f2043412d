-- `batches::root` is safe and ends: the bits that are left fall. Assumes nothing.
use Rattle.script.proofs.batches.+root.Given as goal

abbrev pub decreases-root : goal.decreases-root
decreases-root l = l.left
