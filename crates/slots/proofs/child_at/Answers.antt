-- `slots::child_at` meets its contract: version and hash are the fields of the child. Assumes nothing.
use mathlib.Core.Path.{ap₂}
use Rattle.terms.specs.Records.{child}
use Rattle.terms.specs.Fields.{slice}
use Rattle.layout.specs.Slots.{child_in}
use Rattle.slots.specs.Answer.{child_says}
use Rattle.slots.proofs.child_at.Goals as goal

pub returns : goal.returns
unfolding child_says child_in slice
returns c = ap₂ child c.get_u32-version.ensures c.hash_at-hash.ensures.result_value
