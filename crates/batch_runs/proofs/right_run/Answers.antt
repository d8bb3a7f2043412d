-- `batch_runs::right_run` meets its contract: the records that go right are the rest of the run.
-- Assumes nothing.
use Prim.Native.Nat.{ℕ, ◌*◌, ◌-◌}
use native.Mathlib.Omega.{arith}
use mathlib.Core.Path.{ap, ◌∙◌}
use lib.ListN.{length, drop, length-drop}
use lib.Seq.{take_all}
use Rattle.batch.specs.Runs.{run_of}
use Rattle.batch_runs.proofs.right_run.Goals as goal

pub returns : goal.returns
unfolding run_of
returns c =
    let run = c.args.run.now in
    let m = 72 * c.cut-at.result in
    take_all (length run - m) (drop m run) (simp length-drop (omega arith)) ∙ ap (λ (n : ℕ). drop (72 * n) run) c.cut-at.ensures.0
