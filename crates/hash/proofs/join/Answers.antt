-- A number below 2 ^ 32 does not reach the bytes above it.
-- Assumes nothing.
use mathlib.Core.Path.{refl}
use native.Mathlib.Omega.{arith}
use Rattle.hash.proofs.Digits.{big_join}
use Rattle.hash.proofs.join.Goals as goal

pub returns : goal.returns
returns c = record { value = refl; result_value = big_join 4 4 c.args.x c.args.y (omega arith) }
