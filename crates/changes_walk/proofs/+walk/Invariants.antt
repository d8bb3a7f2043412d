-- `changes_walk::walk` meets its contract: it goes no deeper and puts what the leaves say, or walks to the left and then to the right.
-- Assumes nothing.
use Prim.Native.Nat.{◌-◌}
use Rattle.changes_walk.proofs.+walk.Given as goal

abbrev pub decreases-walk : goal.decreases-walk
decreases-walk l = 256 - l.place.count
