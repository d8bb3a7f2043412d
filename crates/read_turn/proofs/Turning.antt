-- Left below the left count, else right with the rest. Assumes nothing.
use Prim.Native.Nat.{ℕ, ◌-◌, ◌<◌, ◌≤◌}
use native.Mathlib.Omega.{arith}
use mathlib.Core.Path.{◌≡◌, ap, sym, ◌∙◌}
use mathlib.Core.Bool.{cond}
use lib.Dec.{ltb}
use borrow.Author.Tests.{lt-ltb, le-ltb}
use Rattle.terms.specs.Bits.{Side, left, right}
use Rattle.terms.specs.Records.{Grant}
use Rattle.meaning.specs.Calls.{Answer}

module _ (n : ℕ) {lefts l : ℕ} (e : l ≡ lefts) (below : Side → ℕ → Answer Grant) where
  turned_low : n < l → below left n ≡ cond (ltb n lefts) (below left n) (below right (n - lefts))
  turned_low h = sym (ap (λ b. cond b (below left n) (below right (n - lefts))) (lt-ltb n lefts (omega (arith, e))))

  turned_high : l ≤ n → below right (n - l) ≡ cond (ltb n lefts) (below left n) (below right (n - lefts))
  turned_high h = ap (λ m. below right (n - m)) e ∙ sym (ap (λ b. cond b (below left n) (below right (n - lefts))) (le-ltb n lefts (omega (arith, e))))

pub turned_left : (n : ℕ) {lefts l : ℕ} → l ≡ lefts → n < l → (below : Side → ℕ → Answer Grant) →
    below left n ≡ cond (ltb n lefts) (below left n) (below right (n - lefts))
turned_left n e h below = turned_low n e below h

pub turned_right : (n : ℕ) {lefts l : ℕ} → l ≡ lefts → l ≤ n → (below : Side → ℕ → Answer Grant) →
    below right (n - l) ≡ cond (ltb n lefts) (below left n) (below right (n - lefts))
turned_right n e h below = turned_high n e below h
