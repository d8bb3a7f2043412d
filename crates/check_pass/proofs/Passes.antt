-- A pass goes from slot to slot. Assumes nothing.
use Prim.Native.Nat.{ℕ, suc, ◌+◌, ◌≤◌}
use native.Mathlib.Omega.{arith}
use mathlib.Core.Path.{◌≡◌, refl, subst}
use mathlib.Core.Bool.{Bool, true, false, not}
use lib.Dec.{leb}
use borrow.Author.Tests.{not-false, leb-true, leb-false}
use Rattle.check_pass.specs.Passes.{Passed, Each}

-- what is known once a test has not failed
pub passed_so : (b : Bool) {a : Type 0} → not b ≡ false → Passed b a → a
passed_so b {a} e = subst (λ c. Passed c a) (not-false b e)

pub pass_map : (b : Bool) {x y : Type 0} → (x → y) → Passed b x → Passed b y
pass_map true f p = f p
pass_map false f p = tt

pub each_start : (P : ℕ → Type 0) → Each P 0
each_start P i h = absurd (omega arith)

-- one number more
pub each_next : (P : ℕ → Type 0) (k : ℕ) → Each P k → P k → Each P (k + 1)
each_next P k all here i l = go (leb (suc i) k) refl
  where
    go : (c : Bool) → leb (suc i) k ≡ c → P i
    go true d = all i (leb-true (suc i) k d)
    go false d = let n = leb-false (suc i) k d in let e : k ≡ i = omega arith in subst P e here

pub each_below : (P : ℕ → Type 0) (n k : ℕ) → n ≤ k → Each P k → Each P n
each_below P n k h all i l = all i (omega arith)
