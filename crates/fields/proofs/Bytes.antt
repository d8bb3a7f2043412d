-- A field byte by byte: the number of its bytes as the code adds them up, and its bytes as the code divides them out. Assumes nothing.
use Prim.Native.Nat.{ℕ, zero, suc, ◌+◌, ◌*◌, ◌<◌, ◌≤◌, ◌/◌, ◌%◌}
use native.Mathlib.Omega.{arith}
use native.Mathlib.Numerals.{add-one}
use mathlib.Core.Path.{◌≡◌, refl, sym}
use mathlib.Core.Bool.{Bool, true, false, ◌&&◌}
use mathlib.Core.List.{[], ◌∷◌}
use lib.Dec.{eqb}
use lib.ListN.{length, get_or}
use lib.Seq.{drop-cons}
use borrow.Author.Tests.{eq-eqb, ne_eqb}
use Rattle.std.specs.Bool.{MatchBool}
use Rattle.std.specs.List.{AllWithin, HoldsAt}
use Rattle.terms.specs.Bits.{Bytes}
use Rattle.terms.specs.Fields.{le, slice, field, all_zero}

-- the first byte of a field, and the rest
field_byte : (i k n : ℕ) (s : Bytes) → k ≡ i + 1 → i < length s → field i (suc n) s ≡ get_or s i 0 + 256 * field k n s
unfolding field slice
field_byte i k n s e h = rw (e, add-one, drop-cons s i 0 h)

field_none : (i : ℕ) (s : Bytes) → field i 0 s ≡ 0
unfolding field slice
field_none i s = refl

pub field_two : (i : ℕ) (s : Bytes) → i + 2 ≤ length s → field i 2 s ≡ get_or s i 0 + get_or s (i + 1) 0 * 256
field_two i s h =
    omega (
      arith,
      field_byte i (i + 1) 1 s refl (omega arith),
      field_byte (i + 1) (i + 2) 0 s (omega arith) (omega arith),
      field_none (i + 2) s,
    )

pub field_four : (i : ℕ) (s : Bytes) → i + 4 ≤ length s → field i 4 s ≡ get_or s i 0 + get_or s (i + 1) 0 * 256 + get_or s (i + 2) 0 * 65536 + get_or s (i + 3) 0 * 16777216
field_four i s h =
    omega (
      arith,
      field_byte i (i + 1) 3 s refl (omega arith),
      field_byte (i + 1) (i + 2) 2 s (omega arith) (omega arith),
      field_byte (i + 2) (i + 3) 1 s (omega arith) (omega arith),
      field_byte (i + 3) (i + 4) 0 s (omega arith) (omega arith),
      field_none (i + 4) s,
    )

pub le_two : (x : ℕ) → x % 256 ∷ x / 256 % 256 ∷ [] ≡ le 2 x
unfolding le
le_two x = refl

pub le_four : (x : ℕ) → x % 256 ∷ x / 256 % 256 ∷ x / 65536 % 256 ∷ x / 16777216 % 256 ∷ [] ≡ le 4 x
unfolding le
le_four x =
    let c : x / 256 / 256 ≡ x / 65536 = omega arith in
    let d : x / 65536 / 256 ≡ x / 16777216 = omega arith in
    rw (c, d)

-- all is zero if each byte is, and is not if one byte is not
zero_each : (s : Bytes) → ((k : ℕ) → k < length s → get_or s k 0 ≡ 0) → true ≡ all_zero s
zero_each [] h = refl
zero_each (x ∷ s) h = rw (eq-eqb x 0 (h 0 (omega arith))) (zero_each s (λ k l. h (suc k) (omega arith)))

zero_not : (s : Bytes) (k : ℕ) → k < length s → (get_or s k 0 ≡ 0 → ⊥) → false ≡ all_zero s
zero_not [] k h f = absurd (omega arith)
zero_not (x ∷ s) zero h f = rw (ne_eqb x 0 f)
zero_not (x ∷ s) (suc k) h f = rw (← zero_not s k (omega arith) f) (sym (and_false (eqb x 0)))
  where
    and_false : (b : Bool) → b && false ≡ false
    and_false true = refl
    and_false false = refl

pub zero_by_cases : (s : Bytes) (r : Bool) → MatchBool r (AllWithin (λ x. x ≡ 0) s 0 (length s)) ((k : ℕ) × (k < length s) × HoldsAt (λ x. x ≡ 0 → ⊥) s k) → r ≡ all_zero s
zero_by_cases s true h = zero_each s (λ k l. h k 0 (omega arith) l)
zero_by_cases s false h = zero_not s h.0 h.1 (h.2 0)
