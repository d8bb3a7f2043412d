-- `fields::copy` meets its contract: each byte goes to its place. Assumes nothing.
use mathlib.Core.Path.{refl}
use native.Mathlib.Omega.{arith}
use Rattle.fields.proofs.Written.{filling_next, filling_length, filling_done}
use Rattle.fields.proofs.copy.Goals as goal

pub loop-i-init : goal.loop-i-init
loop-i-init c = record { long = c.requires; within = omega arith; filled = refl }

pub bounds-s-i : goal.bounds-s-i
bounds-s-i c = omega (arith, filling_length c.loop-i.invariant)

pub loop-i-preserved : goal.loop-i-preserved
loop-i-preserved c = filling_next c.loop-i.invariant (omega (arith, filling_length c.loop-i.invariant)) refl

pub shape_of-s : goal.shape_of-s
shape_of-s c = filling_length c.loop-i.invariant

pub returns : goal.returns
returns c = filling_done c.loop-i.invariant (omega (arith, filling_length c.loop-i.invariant))
