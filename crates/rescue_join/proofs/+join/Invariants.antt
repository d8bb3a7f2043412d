-- `rescue_join::join` meets its contract: what is looked at here, then both sides. Assumes nothing.
use Prim.Native.Nat.{◌-◌}
use Rattle.rescue_join.proofs.+join.Given as goal

abbrev pub decreases-join : goal.decreases-join
decreases-join l = 256 - l.place.count
