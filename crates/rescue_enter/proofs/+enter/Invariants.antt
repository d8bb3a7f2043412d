-- `rescue_enter::enter` meets its contract: the node here, then those on both sides. Assumes nothing.
use Prim.Native.Nat.{◌-◌}
use Rattle.rescue_enter.proofs.+enter.Given as goal

abbrev pub decreases-enter : goal.decreases-enter
decreases-enter l = 256 - l.place.count
