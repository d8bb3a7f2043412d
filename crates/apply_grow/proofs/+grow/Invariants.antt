-- `apply_grow::grow` meets its contract: each side grows on its run, and a new inner node stands above them. The bits that are left fall.
-- Assumes nothing.
use Prim.Native.Nat.{◌-◌}
use Rattle.apply_grow.proofs.+grow.Given as goal

abbrev pub decreases-grow : goal.decreases-grow
decreases-grow l = 256 - l.place.count
