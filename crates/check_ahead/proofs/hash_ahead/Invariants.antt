-- `check_ahead::hash_ahead` meets its contract: what was known stays known, eight links after eight. Assumes nothing.
use Prim.Native.Nat.{◌-◌, ◌*◌}
use Rattle.check_ahead.proofs.Waiting.{Going}
use Rattle.check_ahead.proofs.hash_ahead.Given as goal

abbrev pub invariant-loop-w : goal.invariant-loop-w
invariant-loop-w l = Going l.form l.store l.n l.known l.slots l.links

abbrev pub decreases-loop-w : goal.decreases-loop-w
decreases-loop-w l = 2 * l.n - l.w
