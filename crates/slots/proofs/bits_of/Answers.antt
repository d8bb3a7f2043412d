-- `slots::bits_of` meets its contract: the bits are the part that is handed out. Assumes nothing.
use mathlib.Core.Path.{refl}
use native.Mathlib.Omega.{arith}
use Rattle.terms.specs.Fields.{slice}
use Rattle.terms.proofs.Fields.{length_slice}
use Rattle.slots.proofs.bits_of.Goals as goal

pub returns : goal.returns
unfolding slice
returns c = (refl, length_slice 8 32 c.args.s.now (omega arith))
