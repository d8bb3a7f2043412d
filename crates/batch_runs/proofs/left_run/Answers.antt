-- `batch_runs::left_run` meets its contract: the records that go left are the front of the run.
-- Assumes nothing.
use Prim.Native.Nat.{◌*◌}
use native.Mathlib.Nat.{sub-zero}
use Rattle.batch.specs.Runs.{run_of}
use Rattle.batch_runs.proofs.left_run.Goals as goal

pub returns : goal.returns
unfolding run_of
returns c = rw (sub-zero (72 * c.cut-end.result), c.cut-end.ensures.0)
