-- Bytes and numbers, the top byte first: each is got back from the other. By induction on the number of bytes.
-- Assumes nothing.
use Prim.Native.Nat.{ℕ, zero, suc, ◌+◌, ◌*◌, ◌/◌, ◌%◌, ◌^◌, ◌≤◌, ◌<◌}
use mathlib.Core.Path.{◌≡◌, refl, ap, ◌∙◌, sym}
use mathlib.Core.List.{[], ◌∷◌, ◌++◌}
use native.Mathlib.Omega.{arith}
use native.Mathlib.Nat.{mod-one, mod-eq_of_lt, mul_assoc, add-mul, zero-add, suc-add, add_assoc, add_comm, mul-add-div_right, mul-add-mod_self_right, div-lt_iff_lt-mul}
use native.Mathlib.Numerals.{add-one, add-two, add-three}
use lib.ListN.{length, take, drop, get_or, length-append}
use lib.Seq.{drop-cons}
use lib.Pow.{mod-pow-add, shr-shr, high, pow_pos, pow-add}
use Rattle.terms.specs.Bits.{Bytes, Byte, All}
use Rattle.hash.specs.BigEndian.{big, number, word_at}

pub length_big : (n x : ℕ) → length (big n x) ≡ n
length_big zero x = refl
length_big (suc n) x = ap suc (length_big n x)

pub bytes_big : (n x : ℕ) → All Byte (big n x)
bytes_big zero x = tt
bytes_big (suc n) x = (omega arith, bytes_big n x)

-- One byte more is eight bits more.
eight_more : (n : ℕ) → suc n * 8 ≡ 8 + n * 8
eight_more n = omega arith

pub number_big : (n x : ℕ) → number (big n x) ≡ x % 2 ^ (n * 8)
number_big zero x = sym (mod-one x)
number_big (suc n) x =
    rw (length_big n x, number_big n x, eight_more n)
    (sym (mod-pow-add x 8 (n * 8)))

shifted : (y n : ℕ) → y * 2 ^ (suc n * 8) ≡ y * 256 * 2 ^ (n * 8)
shifted y n = rw (eight_more n, pow-add 2 8 (n * 8)) (sym (mul_assoc y 256 (2 ^ (n * 8))))

-- The last n bytes do not see what stands above them.
pub big_low : (n y z : ℕ) → big n (y * 2 ^ (n * 8) + z) ≡ big n z
big_low zero y z = refl
big_low (suc n) y z =
    rw (shifted y n, mul-add-div_right (pow_pos (n * 8)) (y * 256) z, mul-add-mod_self_right y 256 (z / 2 ^ (n * 8)), big_low n (y * 256) z)

-- The first bytes and the last.
pub big_split : (m n x : ℕ) → big (m + n) x ≡ big m (x / 2 ^ (n * 8)) ++ big n x
big_split zero n x = rw (zero-add n)
big_split (suc m) n x =
    let top : x / 2 ^ ((m + n) * 8) ≡ x / 2 ^ (n * 8) / 2 ^ (m * 8) =
    ap (λ (k : ℕ). x / 2 ^ k) (add-mul m n 8 ∙ add_comm (m * 8) (n * 8)) ∙ sym (shr-shr x (n * 8) (m * 8)) in
    rw (suc-add m n, top, big_split m n x)

pub big_join : (m n x y : ℕ) → y < 2 ^ (n * 8) → big (m + n) (x * 2 ^ (n * 8) + y) ≡ big m x ++ big n y
big_join m n x y h = rw (big_split m n (x * 2 ^ (n * 8) + y), high x (n * 8) h, big_low n x y)

number_below : (l : Bytes) → All Byte l → number l < 2 ^ (length l * 8)
number_below [] h = omega arith
number_below (x ∷ l) (hx, h) =
    rw (eight_more (length l), pow-add 2 8 (length l * 8))
    ((div-lt_iff_lt-mul (pow_pos (length l * 8))).0 (rw (high x (length l * 8) (number_below l h)) hx))

pub big_number : (l : Bytes) → All Byte l → big (length l) (number l) ≡ l
big_number [] h = refl
big_number (x ∷ l) (hx, h) =
    rw (high x (length l * 8) (number_below l h), mod-eq_of_lt hx, big_low (length l) x (number l), big_number l h)

pub number_append : (l m : Bytes) → number (l ++ m) ≡ number l * 2 ^ (length m * 8) + number m
number_append [] m = omega arith
number_append (x ∷ l) m =
    rw (length-append l m, add-mul (length l) (length m) 8, pow-add 2 (length l * 8) (length m * 8), number_append l m)
    (regroup x (2 ^ (length l * 8)) (2 ^ (length m * 8)) (number l) (number m))
  where
    regroup : (x p q a b : ℕ) → x * (p * q) + (a * q + b) ≡ (x * p + a) * q + b
    regroup x p q a b = rw (add-mul (x * p) a q, mul_assoc x p q) (sym (add_assoc (x * (p * q)) (a * q) b))

pub word_number : (l : Bytes) (p : ℕ) → p + 4 ≤ length l → word_at l p ≡ number (take 4 (drop p l))
unfolding word_at
word_number l p h =
    rw (
      add-one p,
      add-two p,
      add-three p,
      drop-cons l p 0 (omega arith),
      drop-cons l (suc p) 0 (omega arith),
      drop-cons l (suc (suc p)) 0 (omega arith),
      drop-cons l (suc (suc (suc p))) 0 (omega arith),
    )
    (omega arith)

pub all_bytes : (l : Bytes) → ((i : ℕ) → get_or l i 0 < 256) → All Byte l
all_bytes [] h = tt
all_bytes (x ∷ l) h = (h 0, all_bytes l (λ i. h (suc i)))

pub word_big : (x : ℕ) → word_at (big 4 x) 0 ≡ x % 2 ^ 32
word_big x = word_number (big 4 x) 0 (omega arith) ∙ number_big 4 x
