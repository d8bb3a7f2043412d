-- A guess is the first entry that isn't before a node if it isn't before it and the one before it is. Assumes nothing.
use Prim.Native.Nat.{ℕ, ◌-◌, ◌<◌, ◌≤◌}
use native.Mathlib.Omega.{arith}
use mathlib.Core.Path.{◌≡◌, refl, sym, subst}
use mathlib.Core.Bool.{Bool, true, false}
use mathlib.Core.List.{List}
use lib.ListN.{get_or}
use Rattle.terms.specs.Bits.{Bytes, before}
use Rattle.terms.specs.Records.{Slot}
use Rattle.check_pass.specs.Passes.{Passed}
use Rattle.ordered.specs.Ordered.{key_no, Ordered, Between}
use Rattle.ordered.proofs.Ordered.{between_start, between_above, between_below}

-- An entry that isn't before a key is the first if there is none before it, or the one before it is before the key.
module _ {s : List Slot} {t : List ℕ} {n : ℕ} (o : Ordered s t n) (key : Bytes) {k : ℕ} (h : k < n) (not-it : before (key_no s (get_or t k 0)) key ≡ false) where
  pub first_of_all : k ≡ 0 → Between s t n key k k
  first_of_all z = subst (λ m. Between s t n key m k) (sym z) (between_below o key (between_start o key) (omega arith) h not-it)

  pub first_behind : (1 ≤ k) → before (key_no s (get_or t (k - 1) 0)) key ≡ true → Between s t n key k k
  first_behind l e =
      between_below o key
      (subst (λ m. Between s t n key m n) (omega arith) (between_above o key {m = k - 1} (between_start o key) (omega arith) (omega arith) e))
      (omega arith) h not-it

-- what a test says
pub passed_if : {P : Type 0} (r : Bool) → (r ≡ true → P) → Passed r P
passed_if true f = f refl
passed_if false f = tt
