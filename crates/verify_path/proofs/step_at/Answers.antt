-- `verify_path::step_at` meets its contract: its side and its sibling are read each.
-- Assumes nothing.
use mathlib.Core.Path.{ap₂}
use Rattle.terms.specs.Bits.{Bytes}
use Rattle.terms.specs.Records.{Step}
use mathlib.Core.Bool.{Bool}
use Rattle.verify_path.proofs.step_at.Goals as goal

pub returns : goal.returns
returns c = ap₂ (λ (b : Bool) (x : Bytes). record { side = b; sibling = x }) c.is_right.ensures c.sibling.ensures
