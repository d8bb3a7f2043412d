-- `read_descent::descend` meets its contract: each turn goes to the side that the position is on by the left count. Assumes nothing.
use Prim.Native.Nat.{◌-◌}
use Rattle.read_descent.proofs.Descending.{Going}
use Rattle.read_descent.proofs.descend.Given as goal

abbrev pub invariant-loop-place : goal.invariant-loop-place
invariant-loop-place l = Going l.store l.index l.first l.position l.place l.at l.n

abbrev pub decreases-loop-place : goal.decreases-loop-place
decreases-loop-place l = 256 - l.place.count
