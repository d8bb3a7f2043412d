-- Bits by the byte: comparing bytes, or what a shift leaves of them, compares their bits. Assumes nothing.
use Prim.Native.Nat.{ℕ, zero, suc, ◌+◌, ◌*◌, ◌-◌, ◌<◌, ◌≤◌, ◌^◌, ◌/◌, ◌%◌}
use native.Mathlib.Omega.{arith}
use native.Mathlib.Nat.{div-one, add-zero, add-suc, mul-div_cancel, pow-suc, pow-succ', div-div-eq-div-mul}
use native.Mathlib.Numerals.{add-one}
use mathlib.Core.Path.{◌≡◌, refl, ap, ap₂, sym, ◌∙◌}
use mathlib.Core.Bool.{Bool, true, false, not, ◌&&◌, beq}
use mathlib.Core.List.{List, [], ◌∷◌, ◌++◌, append_assoc, append-nil}
use lib.ListN.{length, get_or, take, drop, length-append, drop_of_length-le}
use lib.Seq.{drop-drop, drop-nil, drop-cons, drop-append-le, drop-append-add, take-append-add, take_at, drop_at}
use lib.Dec.{eqb}
use lib.Arith.{mod-mul}
use lib.Pow.{pow_pos}
use borrow.Author.Tests.{eqb-true, eqb-false, eq-eqb, ne_eqb}
use Rattle.std.specs.Bool.{MatchBool}
use Rattle.std.specs.Cmp.Lexicographic.{pointwise}
use Rattle.std.specs.List.{AllWithin, HoldsAt}
use Rattle.terms.specs.Bits.{Bytes, Byte, All, bits, byte_bits, odd, bit, prefix, none_set}
use Rattle.terms.proofs.Tests.{and_assoc, and_true}
use Rattle.terms.proofs.Lists.{all_at}
use Rattle.terms.proofs.Places.{length_byte_bits, bit_at}
use Rattle.terms.proofs.Order.{low, byte_bits_low}

-- bit m of a byte, by a shift
shifted_bit : (x m : ℕ) → m < 8 → get_or (byte_bits x) m false ≡ eqb (x / 2 ^ (7 - m) % 2) 1
unfolding byte_bits odd
shifted_bit x zero h = refl
shifted_bit x (suc zero) h = refl
shifted_bit x (suc (suc zero)) h = refl
shifted_bit x (suc (suc (suc zero))) h = refl
shifted_bit x (suc (suc (suc (suc zero)))) h = refl
shifted_bit x (suc (suc (suc (suc (suc zero))))) h = refl
shifted_bit x (suc (suc (suc (suc (suc (suc zero)))))) h = refl
shifted_bit x (suc (suc (suc (suc (suc (suc (suc zero))))))) h = rw div-one
shifted_bit x (suc (suc (suc (suc (suc (suc (suc (suc m)))))))) h = absurd (omega arith)

pub bit_shifted : (i : ℕ) (k : Bytes) → i < 8 * length k → eqb (get_or k (i / 8) 0 / 2 ^ (7 - i % 8) % 2) 1 ≡ bit i k
bit_shifted i k h = sym (bit_at i (i % 8) k h refl ∙ shifted_bit (get_or k (i / 8) 0) (i % 8) (omega arith))

-- two numbers are equal if their halves and their last bits are
half_same : (x y : ℕ) (a b c : Bool) → eqb (y / 2) (x / 2) ≡ a → eqb (x % 2) 1 ≡ b → eqb (y % 2) 1 ≡ c → a && beq b c ≡ eqb y x
half_same x y false b c p q r = sym (ne_eqb y x (λ e. eqb-false (y / 2) (x / 2) p (ap (λ (n : ℕ). n / 2) e)))
half_same x y true true true p q r =
    let u = eqb-true (y / 2) (x / 2) p in let v = eqb-true (x % 2) 1 q in let w = eqb-true (y % 2) 1 r in
    sym (eq-eqb y x (omega arith))
half_same x y true true false p q r =
    let v = eqb-true (x % 2) 1 q in let w = eqb-false (y % 2) 1 r in
    sym (ne_eqb y x (λ e. omega arith))
half_same x y true false true p q r =
    let v = eqb-false (x % 2) 1 q in let w = eqb-true (y % 2) 1 r in
    sym (ne_eqb y x (λ e. omega arith))
half_same x y true false false p q r =
    let u = eqb-true (y / 2) (x / 2) p in let v = eqb-false (x % 2) 1 q in let w = eqb-false (y % 2) 1 r in
    sym (eq-eqb y x (omega arith))

-- numbers of w bits, and what follows
low_same : (w x y : ℕ) (r s : List Bool) → x < 2 ^ w → y < 2 ^ w → prefix (low w x ++ r) (low w y ++ s) ≡ eqb y x && prefix r s
unfolding odd
low_same zero x y r s hx hy = rw (eq-eqb y x (omega arith))
low_same (suc w) x y r s hx hy =
    ap₂ prefix (append_assoc (low w (x / 2)) _ r) (append_assoc (low w (y / 2)) _ s)
    ∙ low_same w (x / 2) (y / 2) (odd x ∷ r) (odd y ∷ s) (omega arith) (omega arith)
    ∙ sym (and_assoc (eqb (y / 2) (x / 2)) (beq (odd x) (odd y)) (prefix r s))
    ∙ ap (◌&& prefix r s) (half_same x y _ _ _ refl refl refl)

-- the high bits of a number are those of what a shift leaves
low_split : (m n x : ℕ) → low (n + m) x ≡ low n (x / 2 ^ m) ++ low m x
low_split zero n x = rw (add-zero n, div-one x, append-nil (low n x))
low_split (suc m) n x =
    let e : x / 2 / 2 ^ m ≡ x / 2 ^ suc m = rw (div-div-eq-div-mul x 2 (2 ^ m), pow-succ' 2 m) in
    rw (add-suc n m, low_split m n (x / 2), e) (append_assoc (low n (x / 2 ^ suc m)) (low m (x / 2)) (odd x ∷ []))

length_low : (w x : ℕ) → length (low w x) ≡ w
length_low zero x = refl
length_low (suc w) x = length-append (low w (x / 2)) (odd x ∷ []) ∙ rw (length_low w (x / 2)) (add-one w)

low_eight : (n x : ℕ) → n ≤ 8 → byte_bits x ≡ low n (x / 2 ^ (8 - n)) ++ low (8 - n) x
low_eight n x h =
    let e : 8 ≡ n + (8 - n) = omega arith in
    byte_bits_low x ∙ ap (λ (w : ℕ). low w x) e ∙ low_split (8 - n) n x

-- what a shift leaves of a byte has the bits that are left
shifted_small : (n x : ℕ) → n ≤ 8 → x < 256 → x / 2 ^ (8 - n) < 2 ^ n
shifted_small zero x h l = omega arith
shifted_small (suc zero) x h l = omega arith
shifted_small (suc (suc zero)) x h l = omega arith
shifted_small (suc (suc (suc zero))) x h l = omega arith
shifted_small (suc (suc (suc (suc zero)))) x h l = omega arith
shifted_small (suc (suc (suc (suc (suc zero))))) x h l = omega arith
shifted_small (suc (suc (suc (suc (suc (suc zero)))))) x h l = omega arith
shifted_small (suc (suc (suc (suc (suc (suc (suc zero))))))) x h l = omega arith
shifted_small (suc (suc (suc (suc (suc (suc (suc (suc zero)))))))) x h l = omega (arith, div-one x)
shifted_small (suc (suc (suc (suc (suc (suc (suc (suc (suc n))))))))) x h l = absurd (omega arith)

module _ (x y : ℕ) (r s : List Bool) (n : ℕ) (hx : x < 256) (hy : y < 256) where
  -- eight bits or more: the byte, and what follows it
  byte_whole : 8 ≤ n → prefix (take n (byte_bits x ++ r)) (byte_bits y ++ s) ≡ eqb y x && prefix (take (n - 8) r) s
  byte_whole h =
      let e : n ≡ length (byte_bits x) + (n - 8) = omega (arith, length_byte_bits x) in
      ap (λ (m : ℕ). prefix (take m (byte_bits x ++ r)) (byte_bits y ++ s)) e
      ∙ ap (λ (u : List Bool). prefix u (byte_bits y ++ s)) (take-append-add (byte_bits x) r (n - 8))
      ∙ rw (byte_bits_low x, byte_bits_low y) (low_same 8 x y (take (n - 8) r) s hx hy)

  -- at most eight bits: what a shift leaves of the byte
  byte_part : n ≤ 8 → prefix (take n (byte_bits x ++ r)) (byte_bits y ++ s) ≡ eqb (y / 2 ^ (8 - n)) (x / 2 ^ (8 - n))
  byte_part h =
      let xs = low n (x / 2 ^ (8 - n)) in
      let f : take n (byte_bits x ++ r) ≡ xs ++ [] =
      ap (λ (u : List Bool). take n (u ++ r)) (low_eight n x h) ∙ ap (take n) (append_assoc xs (low (8 - n) x) r)
      ∙ take_at xs (low (8 - n) x ++ r) n (length_low n (x / 2 ^ (8 - n))) ∙ sym (append-nil xs) in
      let g : byte_bits y ++ s ≡ low n (y / 2 ^ (8 - n)) ++ (low (8 - n) y ++ s) =
      ap (◌++ s) (low_eight n y h) ∙ append_assoc (low n (y / 2 ^ (8 - n))) (low (8 - n) y) s in
      ap₂ prefix f g
      ∙ low_same n (x / 2 ^ (8 - n)) (y / 2 ^ (8 - n)) [] (low (8 - n) y ++ s) (shifted_small n x h hx) (shifted_small n y h hy)
      ∙ and_true (eqb (y / 2 ^ (8 - n)) (x / 2 ^ (8 - n)))

-- The place of the first n bits of p and the key k, after i bytes that agree: the rest of the place against the rest of the key.
abbrev pub rest_begins : Bytes → Bytes → ℕ → ℕ → Bool
rest_begins p k n i = prefix (take (n - 8 * i) (bits (drop i p))) (bits (drop i k))

module _ (p k : Bytes) (n i : ℕ) (hp : i < length p) (hk : i < length k) (bp : All Byte p) (bk : get_or k i 0 < 256) where
  here : rest_begins p k n i ≡ prefix (take (n - 8 * i) (byte_bits (get_or p i 0) ++ bits (drop (suc i) p))) (byte_bits (get_or k i 0) ++ bits (drop (suc i) k))
  here = rw (drop-cons p i 0 hp, drop-cons k i 0 hk)

  byte : get_or p i 0 < 256
  byte = all_at Byte p 0 i bp hp

  whole : i < n / 8 → rest_begins p k n i ≡ eqb (get_or k i 0) (get_or p i 0) && rest_begins p k n (i + 1)
  whole h =
      let e : n - 8 * i - 8 ≡ n - 8 * (i + 1) = omega arith in
      here ∙ byte_whole (get_or p i 0) (get_or k i 0) _ _ (n - 8 * i) byte bk (omega arith) ∙ rw (e, add-one)

  -- the bits in the last byte
  pub begins_over : i ≡ n / 8 → rest_begins p k n i ≡ eqb (get_or k i 0 / 2 ^ (8 - n % 8)) (get_or p i 0 / 2 ^ (8 - n % 8))
  begins_over h =
      let f : 8 - (n - 8 * i) ≡ 8 - n % 8 = omega arith in
      here ∙ byte_part (get_or p i 0) (get_or k i 0) _ _ (n - 8 * i) byte bk (omega arith) ∙ rw f

-- the whole bytes first, then what is left
pub begins_front : (p k : Bytes) (n m i : ℕ) → i + m ≡ n / 8 → n / 8 ≤ length p → n / 8 ≤ length k → All Byte p → ((j : ℕ) → get_or k j 0 < 256) →
    rest_begins p k n i ≡ pointwise eqb (take m (drop i k)) (take m (drop i p)) && rest_begins p k n (i + m)
begins_front p k n zero i e hp hk bp bk = rw (add-zero i)
begins_front p k n (suc m) i e hp hk bp bk =
    let d : i + 1 + m ≡ i + suc m = omega arith in
    let f = begins_front p k n m (i + 1) (omega arith) hp hk bp bk in
    let a = pointwise eqb (take m (drop (i + 1) k)) (take m (drop (i + 1) p)) in
    whole p k n i (omega arith) (omega arith) bp (bk i) (omega arith)
    ∙ ap (eqb (get_or k i 0) (get_or p i 0) &&◌) (f ∙ ap (λ j. a && rest_begins p k n j) d)
    ∙ sym (and_assoc (eqb (get_or k i 0) (get_or p i 0)) a (rest_begins p k n (i + suc m)))
    ∙ rw (drop-cons k i 0 (omega arith), drop-cons p i 0 (omega arith), add-one i)

-- no bit in the last byte
pub begins_all : (p k : Bytes) (n i : ℕ) → i ≡ n / 8 → n % 8 ≡ 0 → rest_begins p k n i ≡ true
begins_all p k n i h e = let f : n - 8 * i ≡ 0 = omega arith in rw f

none_append : (a b : List Bool) → none_set (a ++ b) ≡ none_set a && none_set b
none_append [] b = refl
none_append (x ∷ a) b = ap (not x &&◌) (none_append a b) ∙ sym (and_assoc (not x) (none_set a) (none_set b))

-- two tests of numbers that say the same
same_test : (a b c d : ℕ) → (a ≡ b → c ≡ d) → (c ≡ d → a ≡ b) → eqb a b ≡ eqb c d
same_test a b c d f g = go (eqb a b) refl
  where
    go : (t : Bool) → eqb a b ≡ t → t ≡ eqb c d
    go true e = sym (eq-eqb c d (f (eqb-true a b e)))
    go false e = sym (ne_eqb c d (λ q. eqb-false a b e (g q)))

none_low : (w x : ℕ) → none_set (low w x) ≡ eqb (x % 2 ^ w) 0
unfolding odd
none_low zero x = rw (eq-eqb (x % 1) 0 (omega arith))
none_low (suc w) x =
    none_append (low w (x / 2)) (odd x ∷ []) ∙ ap (◌&& (not (odd x) && true)) (none_low w (x / 2)) ∙ go _ _ refl refl
  where
    whole : x % 2 ^ suc w ≡ x / 2 % 2 ^ w * 2 + x % 2
    whole = rw (pow-suc 2 w) (mod-mul x (pow_pos w) (omega arith))

    go : (t u : Bool) → eqb (x / 2 % 2 ^ w) 0 ≡ t → eqb (x % 2) 1 ≡ u → t && (not u && true) ≡ eqb (x % 2 ^ suc w) 0
    go true true e f = let g = eqb-true (x % 2) 1 f in sym (ne_eqb (x % 2 ^ suc w) 0 (λ q. omega (arith, whole)))
    go true false e f =
        let g = eqb-false (x % 2) 1 f in let d = eqb-true (x / 2 % 2 ^ w) 0 e in
        sym (eq-eqb (x % 2 ^ suc w) 0 (omega (arith, whole)))
    go false u e f = let d = eqb-false (x / 2 % 2 ^ w) 0 e in sym (ne_eqb (x % 2 ^ suc w) 0 (λ q. d (omega (arith, whole))))

-- a shift up leaves the low bits
shifted_none : (x m : ℕ) → m < 8 → eqb (x % 2 ^ (8 - m)) 0 ≡ eqb (x * 2 ^ m % 256) 0
shifted_none x m h = go m h (mod-mul (x * 2 ^ m) (pow_pos (8 - m)) (pow_pos m) ∙ rw (mul-div_cancel x (pow_pos m)))
  where
    go : (n : ℕ) → n < 8 → x * 2 ^ n % (2 ^ (8 - n) * 2 ^ n) ≡ x % 2 ^ (8 - n) * 2 ^ n + x * 2 ^ n % 2 ^ n → eqb (x % 2 ^ (8 - n)) 0 ≡ eqb (x * 2 ^ n % 256) 0
    go zero l e = same_test (x % 256) 0 (x * 1 % 256) 0 (λ q. omega arith) (λ q. omega arith)
    go (suc zero) l e = same_test (x % 128) 0 (x * 2 % 256) 0 (λ q. omega arith) (λ q. omega arith)
    go (suc (suc zero)) l e = same_test (x % 64) 0 (x * 4 % 256) 0 (λ q. omega arith) (λ q. omega arith)
    go (suc (suc (suc zero))) l e = same_test (x % 32) 0 (x * 8 % 256) 0 (λ q. omega arith) (λ q. omega arith)
    go (suc (suc (suc (suc zero)))) l e = same_test (x % 16) 0 (x * 16 % 256) 0 (λ q. omega arith) (λ q. omega arith)
    go (suc (suc (suc (suc (suc zero))))) l e = same_test (x % 8) 0 (x * 32 % 256) 0 (λ q. omega arith) (λ q. omega arith)
    go (suc (suc (suc (suc (suc (suc zero)))))) l e = same_test (x % 4) 0 (x * 64 % 256) 0 (λ q. omega arith) (λ q. omega arith)
    go (suc (suc (suc (suc (suc (suc (suc zero))))))) l e = same_test (x % 2) 0 (x * 128 % 256) 0 (λ q. omega arith) (λ q. omega arith)
    go (suc (suc (suc (suc (suc (suc (suc (suc n)))))))) l e = absurd (omega arith)

-- the bits of a byte from bit m on
none_byte : (x m : ℕ) → m < 8 → none_set (drop m (byte_bits x)) ≡ eqb (x * 2 ^ m % 256) 0
none_byte x m h =
    let l : m ≤ 8 = omega arith in
    ap (λ (u : List Bool). none_set (drop m u)) (low_eight m x l)
    ∙ ap none_set (drop_at (low m (x / 2 ^ (8 - m))) (low (8 - m) x) m (length_low m (x / 2 ^ (8 - m))))
    ∙ none_low (8 - m) x ∙ shifted_none x m h

bits_drop : (j : ℕ) (b : Bytes) → drop (8 * j) (bits b) ≡ bits (drop j b)
bits_drop zero b = refl
bits_drop (suc j) [] = drop-nil (8 * suc j)
bits_drop (suc j) (x ∷ b) =
    let e : 8 * suc j ≡ length (byte_bits x) + 8 * j = omega (arith, length_byte_bits x) in
    ap (λ (n : ℕ). drop n (byte_bits x ++ bits b)) e ∙ drop-append-add (byte_bits x) (bits b) (8 * j) ∙ bits_drop j b

unused_split : (b : Bytes) (n : ℕ) → drop n (bits b) ≡ drop (n % 8) (bits (drop (n / 8) b))
unused_split b n =
    let e : n ≡ 8 * (n / 8) + n % 8 = omega arith in
    ap (λ (m : ℕ). drop m (bits b)) e ∙ sym (drop-drop (n % 8) (8 * (n / 8)) (bits b)) ∙ ap (drop (n % 8)) (bits_drop (n / 8) b)

none_rest : (b : Bytes) (i m : ℕ) → i < length b → m < 8 →
    none_set (drop m (bits (drop i b))) ≡ eqb (get_or b i 0 * 2 ^ m % 256) 0 && none_set (bits (drop (i + 1) b))
none_rest b i m h l =
    rw (drop-cons b i 0 h, add-one i)
    (ap none_set (drop-append-le m (byte_bits (get_or b i 0)) (bits (drop (suc i) b)) (omega (arith, length_byte_bits (get_or b i 0))))
    ∙ none_append (drop m (byte_bits (get_or b i 0))) (bits (drop (suc i) b))
    ∙ ap (◌&& none_set (bits (drop (suc i) b))) (none_byte (get_or b i 0) m l))

-- the byte in which the unused bits begin
pub unused_first : (b : Bytes) (n : ℕ) → n / 8 < length b → get_or b (n / 8) 0 * 2 ^ (n % 8) % 256 ≡ 0 → none_set (drop n (bits b)) ≡ none_set (bits (drop (n / 8 + 1) b))
unused_first b n h e =
    ap none_set (unused_split b n) ∙ none_rest b (n / 8) (n % 8) h (omega arith) ∙ rw (eq-eqb (get_or b (n / 8) 0 * 2 ^ (n % 8) % 256) 0 e)

pub unused_first_off : (b : Bytes) (n : ℕ) → n / 8 < length b → (get_or b (n / 8) 0 * 2 ^ (n % 8) % 256 ≡ 0 → ⊥) → none_set (drop n (bits b)) ≡ false
unused_first_off b n h f =
    ap none_set (unused_split b n) ∙ none_rest b (n / 8) (n % 8) h (omega arith) ∙ rw (ne_eqb (get_or b (n / 8) 0 * 2 ^ (n % 8) % 256) 0 f)

-- the bytes after it
unused_next : (b : Bytes) (i : ℕ) → i < length b → get_or b i 0 ≡ 0 → none_set (bits (drop i b)) ≡ none_set (bits (drop (i + 1) b))
unused_next b i h e = none_rest b i 0 h (omega arith) ∙ rw (eq-eqb (get_or b i 0 * 1 % 256) 0 (omega arith))

unused_off : (b : Bytes) (i : ℕ) → i < length b → get_or b i 0 < 256 → (get_or b i 0 ≡ 0 → ⊥) → none_set (bits (drop i b)) ≡ false
unused_off b i h l f = none_rest b i 0 h (omega arith) ∙ rw (ne_eqb (get_or b i 0 * 1 % 256) 0 (λ e. f (omega arith)))

unset_each : (t : Bytes) → ((k : ℕ) → k < length t → get_or t k 0 ≡ 0) → true ≡ none_set (bits t)
unset_each [] h = refl
unset_each (x ∷ t) h = unset_each t (λ k l. h (suc k) (omega arith)) ∙ sym (unused_next (x ∷ t) 0 (omega arith) (h 0 (omega arith)))

unset_not : (t : Bytes) → ((k : ℕ) → get_or t k 0 < 256) → (k : ℕ) → k < length t → (get_or t k 0 ≡ 0 → ⊥) → false ≡ none_set (bits t)
unset_not [] b k h f = absurd (omega arith)
unset_not (x ∷ t) b zero h f = sym (unused_off (x ∷ t) 0 h (b 0) f)
unset_not (x ∷ t) b (suc k) h f =
    let e = unset_not t (λ j. b (suc j)) k (omega arith) f in
    sym (none_rest (x ∷ t) 0 0 (omega arith) (omega arith) ∙ rw (← e) (and_false (eqb (x * 1 % 256) 0)))
  where
    and_false : (b : Bool) → b && false ≡ false
    and_false true = refl
    and_false false = refl

-- whether zero bytes are all that there is
pub unset_by_cases : (t : Bytes) (r : Bool) → ((k : ℕ) → get_or t k 0 < 256) → MatchBool r (AllWithin (λ x. x ≡ 0) t 0 (length t)) ((k : ℕ) × (k < length t) × HoldsAt (λ x. x ≡ 0 → ⊥) t k) → r ≡ none_set (bits t)
unset_by_cases t true b h = unset_each t (λ k l. h k 0 (omega arith) l)
unset_by_cases t false b h = unset_not t b h.0 h.1 (h.2 0)

-- no byte holds an unused bit
pub unused_none : (b : Bytes) (n : ℕ) → length b ≤ n / 8 → none_set (drop n (bits b)) ≡ true
unused_none b n h = ap none_set (unused_split b n) ∙ rw (drop_of_length-le b {i = n / 8} h, drop-nil {A = Bool} (n % 8))
