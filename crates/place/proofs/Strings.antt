-- Byte strings from an index on: which of two strings that agree so far comes first is decided by what is left of them. Assumes nothing.
use Prim.Native.Nat.{ℕ, ◌<◌, ◌≤◌}
use mathlib.Core.Path.{◌≡◌, refl}
use mathlib.Core.Bool.{Bool, true, false}
use mathlib.Core.List.{[], ◌∷◌}
use lib.ListN.{length, drop, drop_of_length-le}
use lib.Seq.{drop-cons}
use Rattle.terms.specs.Bits.{Bytes, before}

before_nil : (x : Bytes) → before x [] ≡ false
before_nil [] = refl
before_nil (a ∷ x) = refl

module _ (x y : Bytes) (i : ℕ) where
  abbrev pub rest_before : Bool
  rest_before = before (drop i x) (drop i y)

module _ (x y : Bytes) (i : ℕ) where
  pub before_short : length x ≤ i → i < length y → rest_before x y i ≡ true
  before_short h l = rw (drop_of_length-le x {i = i} h, drop-cons y i 0 l)

  pub before_end : length y ≤ i → rest_before x y i ≡ false
  before_end h = rw (drop_of_length-le y {i = i} h) (before_nil (drop i x))
