-- `verify_one::next_hash` meets its contract. A lane that has the step takes the new hash. Assumes nothing.
use native.Mathlib.Omega.{arith}
use mathlib.Core.Path.{refl}
use Rattle.verify_one.proofs.next_hash.Goals as goal

pub returns-then-i-step_count : goal.returns-then-i-step_count
returns-then-i-step_count c = (λ k. refl, λ k. absurd (omega arith))

pub returns : goal.returns
returns c = (λ k. absurd (omega arith), λ k. refl)
