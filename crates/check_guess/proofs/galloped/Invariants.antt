-- `check_guess::galloped` is safe and ends: a step is at most one more than what lies behind. Assumes nothing.
use Prim.Native.Nat.{◌+◌, ◌-◌, ◌≤◌}
use lib.ListN.{length}
use Rattle.check_guess.proofs.galloped.Given as goal

abbrev pub invariant-loop-high : goal.invariant-loop-high
invariant-loop-high l = (l.low ≤ l.high) × (l.low ≤ length l.order) × (1 ≤ l.step) × (l.step ≤ l.high + 1)

abbrev pub decreases-loop-high : goal.decreases-loop-high
decreases-loop-high l = length l.order - l.high
