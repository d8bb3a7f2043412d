-- No reason has the number of acceptance. Assumes nothing.
use mathlib.Core.Path.{◌≡◌}
use native.Mathlib.Omega.{arith}
use Rattle.refusal_numbers.specs.Refusals.{number}
use Rattle.refusal_numbers.specs.declared.Refusal as refusal
use Rattle.refusal_numbers.specs.declared.Refusal.TheVariants as R

pub not_zero : (r : refusal.Refusal) → number r ≡ 0 → ⊥
not_zero R.WrongSize e = omega arith
not_zero R.WrongHeader e = omega arith
not_zero R.NotSound e = omega arith
not_zero R.BadBatch e = omega arith
not_zero R.BadOrder e = omega arith
not_zero R.FewSlots e = omega arith
not_zero R.NotKept e = omega arith
not_zero R.NoRoom e = omega arith
not_zero R.NotInForm e = omega arith
not_zero R.NotHolding e = omega arith
not_zero R.Not32Bytes e = omega arith
not_zero R.TooManyVisits e = omega arith
not_zero R.EmptyVersion e = omega arith
not_zero R.NotRaw e = omega arith
not_zero R.WrongIndex e = omega arith
not_zero R.Lost e = omega arith
not_zero R.NotAbove e = omega arith
not_zero R.OutsidePocket e = omega arith
not_zero R.PastNumber e = omega arith
not_zero R.TooManyBits e = omega arith
