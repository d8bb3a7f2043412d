-- `batch_runs::batch_order` meets its contract: the keys before record i are in order, so the keys from the one before it on decide.
-- Assumes nothing.
use Prim.Native.Nat.{◌-◌}
use mathlib.Core.Path.{◌≡◌}
use lib.ListN.{drop}
use Rattle.meaning.specs.Calls.{ascending}
use Rattle.batch.specs.Batch.{asks}
use Rattle.batch_runs.proofs.batch_order.Given as goal

abbrev pub invariant-loop-i : goal.invariant-loop-i
invariant-loop-i l = ascending (asks l.b) ≡ ascending (drop (l.i - 1) (asks l.b))
