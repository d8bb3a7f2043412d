-- `prove_trails::descend` meets its contract: each turn goes one inner node further, to the side where it can, until a leaf. Assumes nothing.
use Prim.Native.Nat.{◌-◌}
use Rattle.prove_trails.proofs.Searches.{Descent}
use Rattle.prove_trails.proofs.descend.Given as goal

abbrev pub invariant-loop-i : goal.invariant-loop-i
invariant-loop-i l = Descent l.store l.index l.side l.initial.here l.here

abbrev pub decreases-loop-i : goal.decreases-loop-i
decreases-loop-i l = 256 - l.here.place.count
