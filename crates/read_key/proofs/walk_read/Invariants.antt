-- `read_key::walk_read` meets its contract: each turn goes to the child on the side of the key's next bit. Assumes nothing.
use Prim.Native.Nat.{◌-◌}
use Rattle.read_key.proofs.Walking.{Walked}
use Rattle.read_key.proofs.walk_read.Given as goal

abbrev pub invariant-loop-seen : goal.invariant-loop-seen
invariant-loop-seen l = Walked l.store l.index l.version l.key l.place l.seen

abbrev pub decreases-loop-seen : goal.decreases-loop-seen
decreases-loop-seen l = 256 - l.place.count
