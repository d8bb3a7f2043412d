-- Laws of Bool tests: what `&&` says, and that the tests of byte strings and places decide equality. Assumes nothing.
use mathlib.Core.Path.{◌≡◌, refl, ap₂}
use mathlib.Core.Logic.{◌⊎◌, inl, inr}
use mathlib.Core.Bool.{Bool, true, false, not, ◌&&◌, ◌||◌, beq, false≢true}
use mathlib.Core.List.{[], ◌∷◌}
use lib.Dec.{eqb}
use borrow.Author.Tests.{eqb-true, eq-eqb}
use Rattle.terms.specs.Bits.{Bytes, Side, Place, same_bytes, same_place}

pub and_left : (a b : Bool) → a && b ≡ true → a ≡ true
and_left true b h = refl
and_left false b h = h

pub and_right : (a b : Bool) → a && b ≡ true → b ≡ true
and_right true b h = h
and_right false b h = absurd (false≢true h)

pub and_comm : (a b : Bool) → a && b ≡ b && a
and_comm true true = refl
and_comm true false = refl
and_comm false true = refl
and_comm false false = refl

pub and_assoc : (a b c : Bool) → (a && b) && c ≡ a && (b && c)
and_assoc true b c = refl
and_assoc false b c = refl

pub and_true : (a : Bool) → a && true ≡ a
and_true true = refl
and_true false = refl

pub is_false : (b : Bool) → (b ≡ true → ⊥) → b ≡ false
is_false true h = absurd (h refl)
is_false false h = refl

pub is_true : (b : Bool) → (b ≡ false → ⊥) → b ≡ true
is_true true h = refl
is_true false h = absurd (h refl)

pub or_cases : (a b : Bool) → a || b ≡ true → (a ≡ true) ⊎ (b ≡ true)
or_cases true b h = inl refl
or_cases false b h = inr h

-- a test that is asked only where another passes
pub where_passed : (a b : Bool) → not a || b ≡ true → a ≡ true → b ≡ true
where_passed true b h e = h
where_passed false b h e = absurd (false≢true e)

pub passed_where : (a b : Bool) → (a ≡ true → b ≡ true) → not a || b ≡ true
passed_where true b h = h refl
passed_where false b h = refl

-- A Bool test of both bits, and what it says of one: for facts about bits that are computed.
abbrev pub both_bits_lem : (Side → Bool) → Bool
both_bits_lem f = f true && f false

pub both_bits : (f : Side → Bool) → both_bits_lem f ≡ true → (b : Side) → f b ≡ true
both_bits f h true = and_left (f true) (f false) h
both_bits f h false = and_right (f true) (f false) h

pub same_bit : (b c : Side) → beq b c ≡ true → b ≡ c
same_bit true true h = refl
same_bit true false h = absurd (false≢true h)
same_bit false true h = absurd (false≢true h)
same_bit false false h = refl

pub bit_same : (b : Side) → beq b b ≡ true
bit_same true = refl
bit_same false = refl

pub same_bytes_lem : (xs ys : Bytes) → same_bytes xs ys ≡ true → xs ≡ ys
same_bytes_lem [] [] h = refl
same_bytes_lem [] (y ∷ ys) h = absurd (false≢true h)
same_bytes_lem (x ∷ xs) [] h = absurd (false≢true h)
same_bytes_lem (x ∷ xs) (y ∷ ys) h =
    ap₂ ◌∷◌ (eqb-true x y (and_left (eqb x y) (same_bytes xs ys) h)) (same_bytes_lem xs ys (and_right (eqb x y) (same_bytes xs ys) h))

pub bytes_same : (xs : Bytes) → same_bytes xs xs ≡ true
bytes_same [] = refl
bytes_same (x ∷ xs) = rw (eq-eqb x x refl) (bytes_same xs)

pub same_place_lem : (p q : Place) → same_place p q ≡ true → p ≡ q
same_place_lem [] [] h = refl
same_place_lem [] (c ∷ q) h = absurd (false≢true h)
same_place_lem (b ∷ p) [] h = absurd (false≢true h)
same_place_lem (b ∷ p) (c ∷ q) h =
    ap₂ ◌∷◌ (same_bit b c (and_left (beq b c) (same_place p q) h)) (same_place_lem p q (and_right (beq b c) (same_place p q) h))

pub place_same : (p : Place) → same_place p p ≡ true
place_same [] = refl
place_same (b ∷ p) = rw (bit_same b) (place_same p)
