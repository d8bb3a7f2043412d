-- The comparison of two byte strings tells whether they are equal. By induction on both.
-- Assumes nothing.
use mathlib.Core.Path.{◌≡◌, refl}
use mathlib.Core.Bool.{Bool, true, false, ◌&&◌}
use mathlib.Core.List.{[], ◌∷◌}
use lib.Dec.{eqb}
use borrow.Author.Tests.{eqb-true, eq-eqb}
use Rattle.terms.specs.Bits.{Bytes, same_bytes}

pub same_self : (x : Bytes) → same_bytes x x ≡ true
same_self [] = refl
same_self (b ∷ x) = rw (eq-eqb b b refl, same_self x)

both : (s t : Bool) → s && t ≡ true → (s ≡ true) × (t ≡ true)
both true t h = (refl, h)
both false t h = (h, cc)

pub same_equal : (x y : Bytes) → same_bytes x y ≡ true → x ≡ y
same_equal [] [] h = refl
same_equal [] (c ∷ y) h = cc
same_equal (b ∷ x) [] h = cc
same_equal (b ∷ x) (c ∷ y) h =
    let g = both (eqb b c) (same_bytes x y) h in
    rw (eqb-true b c g.0, same_equal x y g.1)

either : (t : Bool) → (t ≡ true → ⊥) → t ≡ false
either true h = absurd (h refl)
either false h = refl

pub same_not : (x y : Bytes) → (x ≡ y → ⊥) → same_bytes x y ≡ false
same_not x y h = either (same_bytes x y) (λ e. h (same_equal x y e))
