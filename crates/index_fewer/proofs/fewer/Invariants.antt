-- `index_fewer::fewer` is safe and ends. Assumes nothing.
use Prim.Native.Nat.{◌≤◌}
use Rattle.index_fewer.proofs.fewer.Given as goal

abbrev pub invariant-loop-k : goal.invariant-loop-k
invariant-loop-k l = l.kept ≤ l.k
