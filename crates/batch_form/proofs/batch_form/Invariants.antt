-- `batch_form::batch_form` meets its contract: the first i records are in form, so those from i on decide.
-- Assumes nothing.
use Prim.Native.Nat.{◌≤◌}
use mathlib.Core.Path.{◌≡◌}
use lib.ListN.{drop}
use Rattle.batch.specs.Batch.{ask_form, records_of, every, batch_form}
use Rattle.batch_form.proofs.batch_form.Given as goal

abbrev pub invariant-loop-i : goal.invariant-loop-i
invariant-loop-i l = (l.i ≤ l.n) × (batch_form l.b ≡ every ask_form (drop l.i (records_of l.b)))
