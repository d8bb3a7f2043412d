-- `verify_path::outermost` meets its contract: all steps keep to the side exactly if those from step i on do.
-- Assumes nothing.
use Prim.Native.Nat.{◌-◌}
use mathlib.Core.Path.{◌≡◌}
use Rattle.meaning.specs.Checking.{outermost}
use Rattle.proofrecords.specs.ProofBytes.{steps_in}
use Rattle.proofrecords.specs.Steps.{first_steps}
use Rattle.proofrecords.proofs.Lying.{from_step}
use Rattle.verify_path.proofs.outermost.Given as goal

abbrev pub invariant-loop-i : goal.invariant-loop-i
invariant-loop-i l = outermost l.side (first_steps l.n l.p) ≡ outermost l.side (steps_in (l.n - l.i) (from_step l.i l.p))
