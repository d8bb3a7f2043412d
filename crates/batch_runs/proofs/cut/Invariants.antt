-- `batch_runs::cut` meets its contract: the records before `low` go left and those from `high` on go right. The measure is what lies between.
-- Assumes nothing.
use Prim.Native.Nat.{◌-◌, ◌≤◌}
use Rattle.batch.specs.Batch.{count}
use Rattle.batch.specs.Runs.{lefts}
use Rattle.batch_runs.proofs.cut.Given as goal

abbrev pub invariant-loop-low : goal.invariant-loop-low
invariant-loop-low l = (l.low ≤ lefts l.i l.run) × (lefts l.i l.run ≤ l.high) × (l.high ≤ count l.run)

abbrev pub decreases-loop-low : goal.decreases-loop-low
decreases-loop-low l = l.high - l.low
