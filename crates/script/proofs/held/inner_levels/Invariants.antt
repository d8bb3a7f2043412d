-- `held::inner_levels` is safe and ends. At most one is counted for each bit count. Assumes nothing.
use Prim.Native.Nat.{◌≤◌}
use Rattle.script.proofs.held.inner_levels.Given as goal

abbrev pub invariant-loop-long : goal.invariant-loop-long
invariant-loop-long l = l.n ≤ l.long
