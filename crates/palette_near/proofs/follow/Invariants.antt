-- `palette_near::follow` meets its contract: each guess that is kept leads. Assumes nothing.
use Prim.Native.Nat.{◌-◌}
use Rattle.place.specs.Place.{Proper}
use Rattle.layout.specs.Stores.{store_of}
use Rattle.read_near.specs.Near.{Led}
use Rattle.palette_near.proofs.follow.Given as goal

abbrev pub invariant-loop-place : goal.invariant-loop-place
invariant-loop-place l = Led (store_of l.store) l.index l.kids × Proper l.place

abbrev pub decreases-loop-place : goal.decreases-loop-place
decreases-loop-place l = 256 - l.place.count
