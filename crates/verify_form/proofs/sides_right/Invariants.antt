-- `verify_form::sides_right` meets its contract: all sides are right exactly if those from step i on are.
-- Assumes nothing.
use Prim.Native.Nat.{◌-◌}
use mathlib.Core.Path.{◌≡◌}
use lib.ListN.{drop}
use Rattle.proofrecords.specs.ProofBytes.{sides_right}
use Rattle.proofrecords.proofs.Lying.{from_step}
use Rattle.verify_form.proofs.sides_right.Given as goal

abbrev pub invariant-loop-i : goal.invariant-loop-i
invariant-loop-i l = sides_right l.n (drop 72 l.p) ≡ sides_right (l.n - l.i) (from_step l.i l.p)
