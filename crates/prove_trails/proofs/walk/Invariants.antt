-- `prove_trails::walk` meets its contract: each turn passes one inner node, by the key's bit. Assumes nothing.
use Prim.Native.Nat.{◌-◌}
use Rattle.prove_trails.specs.Trails.{Walking}
use Rattle.prove_trails.proofs.walk.Given as goal

abbrev pub invariant-loop-trail : goal.invariant-loop-trail
invariant-loop-trail l = Walking l.store l.index l.version l.key l.trail l.left l.right

abbrev pub decreases-loop-trail : goal.decreases-loop-trail
decreases-loop-trail l = 256 - l.trail.place.count
