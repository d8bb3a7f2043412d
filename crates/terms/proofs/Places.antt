-- Places and the bits of byte strings: which byte a bit stands in, a place one bit longer, and a string of bits as bytes, there and back.
-- Assumes nothing.
use Prim.Native.Nat.{ℕ, zero, suc, ◌+◌, ◌*◌, ◌-◌, ◌<◌, ◌≤◌, ◌/◌, ◌%◌}
use native.Mathlib.Omega.{arith}
use native.Mathlib.Nat.{zero-add, not-suc-le-zero, le_of_suc-le-suc}
use mathlib.Core.Path.{◌≡◌, refl, ap, ap₂, sym, ◌∙◌}
use mathlib.Core.Bool.{Bool, true, false, ◌&&◌, beq, false≢true}
use mathlib.Core.List.{List, [], ◌∷◌, ◌++◌}
use lib.ListN.{length, get_or, take, drop, get_or-append, get_or-eq_default, length-append, length-take}
use lib.Seq.{get_or-append-add, get_or-drop, get_or-take, ext_get_or}
use lib.Dec.{eqb, ltb}
use borrow.Author.Tests.{ltb-true, ltb-false}
use Rattle.terms.specs.Bits.{Bytes, Byte, Side, Place, All, longer, bits, byte_bits, odd, bit, prefix, begins, none_set, digit, packed, pack, same_place}
use Rattle.terms.proofs.Tests.{and_left, and_right, and_true, and_assoc, same_bit, bit_same, both_bits_lem, both_bits, same_place_lem}

pub length_byte_bits : (x : ℕ) → length (byte_bits x) ≡ 8
unfolding byte_bits
length_byte_bits x = refl

pub length_bits : (k : Bytes) → length (bits k) ≡ 8 * length k
unfolding byte_bits
length_bits [] = refl
length_bits (x ∷ xs) = omega (arith, length_bits xs)

-- bit 8 j + m of a key is bit m of byte j
pub bits_at : (k : Bytes) (j m : ℕ) → m < 8 → j < length k → get_or (bits k) (8 * j + m) false ≡ get_or (byte_bits (get_or k j 0)) m false
bits_at [] j m h l = absurd (omega arith)
bits_at (x ∷ xs) zero m h l = rw zero-add (get_or-append (byte_bits x) (bits xs) false m (rw length_byte_bits h))
bits_at (x ∷ xs) (suc j) m h l =
    ap (λ q. get_or (byte_bits x ++ bits xs) q false) (omega (arith, length_byte_bits x))
    ∙ get_or-append-add (byte_bits x) (bits xs) (8 * j + m) false
    ∙ bits_at xs j m h (omega arith)

-- the same, as a test of the byte
pub bit_at : (i m : ℕ) (k : Bytes) → i < 8 * length k → i % 8 ≡ m → bit i k ≡ get_or (byte_bits (get_or k (i / 8) 0)) m false
unfolding bit
bit_at i m k h e =
    ap (λ q. get_or (bits k) q false) (omega arith) ∙ bits_at k (i / 8) m (omega arith) (omega arith)

pub length_longer : (b : Side) (p : Place) → length (longer b p) ≡ suc (length p)
unfolding longer
length_longer b p = simp length-append (omega arith)

-- the shorter place and the last bit are those of the longer one
pub longer_inj : (p q : Place) (a b : Side) → longer a p ≡ longer b q → (p ≡ q) × (a ≡ b)
unfolding longer
longer_inj [] [] a b e = (refl, cc)
longer_inj [] (y ∷ q) a b e = absurd (omega (arith, ap length e, length_longer b q))
longer_inj (x ∷ p) [] a b e = absurd (omega (arith, ap length e, length_longer a p))
longer_inj (x ∷ p) (y ∷ q) a b e =
    let h : x ≡ y = cc in let t : longer a p ≡ longer b q = cc in let u = longer_inj p q a b t in (ap₂ ◌∷◌ h u.0, u.1)

-- a place one bit longer
pub prefix_snoc : (p : Place) (b : Bool) (bs : List Bool) → length p < length bs → prefix (p ++ (b ∷ [])) bs ≡ prefix p bs && beq b (get_or bs (length p) false)
prefix_snoc [] b [] h = absurd (not-suc-le-zero h)
prefix_snoc [] b (c ∷ bs) h = and_true (beq b c)
prefix_snoc (x ∷ p) b [] h = absurd (not-suc-le-zero h)
prefix_snoc (x ∷ p) b (c ∷ bs) h = ap (beq x c &&◌) (prefix_snoc p b bs (le_of_suc-le-suc h)) ∙ sym (and_assoc (beq x c) (prefix p bs) _)

-- a string of bits that begins with a longer place begins with the place and goes on with its last bit
pub prefix_longer : (b : Side) (p : Place) (bs : List Side) → prefix (longer b p) bs ≡ true → (prefix p bs ≡ true) × (get_or bs (length p) false ≡ b)
unfolding longer
prefix_longer b [] [] h = absurd (false≢true h)
prefix_longer b [] (c ∷ bs) h = (refl, sym (same_bit b c (and_left (beq b c) true h)))
prefix_longer b (x ∷ p) [] h = absurd (false≢true h)
prefix_longer b (x ∷ p) (c ∷ bs) h =
    let rest = prefix_longer b p bs (and_right (beq x c) (prefix (p ++ (b ∷ [])) bs) h) in
    (rw (and_left (beq x c) (prefix (p ++ (b ∷ [])) bs) h) rest.0, rest.1)

pub prefix_self : (p : Place) → prefix p p ≡ true
prefix_self [] = refl
prefix_self (b ∷ p) = rw (bit_same b) (prefix_self p)

pub prefix_length : (p : Place) (bs : List Side) → prefix p bs ≡ true → length p ≤ length bs
prefix_length [] bs h = omega arith
prefix_length (x ∷ p) [] h = absurd (false≢true h)
prefix_length (x ∷ p) (c ∷ bs) h = omega (arith, prefix_length p bs (and_right (beq x c) (prefix p bs) h))

-- a key begins with a longer place if it begins with the place and goes on with its last bit
pub begins_longer : (b : Side) (p : Place) (k : Bytes) → length p < 8 * length k → begins (longer b p) k ≡ begins p k && beq b (bit (length p) k)
unfolding begins longer bit
begins_longer b p k h = prefix_snoc p b (bits k) (rw (length_bits k) h)

digit_odd : (n : ℕ) → digit (odd n) ≡ n % 2
unfolding odd
digit_odd n = go (n % 2) (omega arith)
  where
    go : (m : ℕ) → m < 2 → digit (eqb m 1) ≡ m
    go zero h = refl
    go (suc zero) h = refl
    go (suc (suc m)) h = absurd (omega arith)

eight : (x a b c d e f g p q r s t u v w : ℕ) → x ≡ 2 * a + w → a ≡ 2 * b + v → b ≡ 2 * c + u → c ≡ 2 * d + t → d ≡ 2 * e + s → e ≡ 2 * f + r → f ≡ 2 * g + q → g ≡ p →
    128 * p + 64 * q + 32 * r + 16 * s + 8 * t + 4 * u + 2 * v + w ≡ x
eight x a b c d e f g p q r s t u v w h₁ h₂ h₃ h₄ h₅ h₆ h₇ h₈ = omega arith

-- eight bits of a byte, with more after them
packed_byte : (x : ℕ) (r : List Bool) → x < 256 → packed (byte_bits x ++ r) ≡ x
unfolding packed byte_bits
packed_byte x r h =
    simp digit_odd
    (eight x (x / 2) (x / 4) (x / 8) (x / 16) (x / 32) (x / 64) (x / 128) (x / 128 % 2) (x / 64 % 2) (x / 32 % 2) (x / 16 % 2) (x / 8 % 2) (x / 4 % 2) (x / 2 % 2) (x % 2)
    (omega arith) (omega arith) (omega arith) (omega arith) (omega arith) (omega arith) (omega arith) (omega arith))

drop_byte : (x : ℕ) (r : List Bool) → drop 8 (byte_bits x ++ r) ≡ r
unfolding byte_bits
drop_byte x r = refl

pub pack_bits : (p : Bytes) → All Byte p → pack (length p) (bits p) ≡ p
unfolding pack
pack_bits [] h = refl
pack_bits (x ∷ xs) h = ap₂ ◌∷◌ (packed_byte x (bits xs) h.0) (ap (pack (length xs)) (drop_byte x (bits xs)) ∙ pack_bits xs h.1)

-- only the bits count
pub pack_ext : (n : ℕ) (a b : List Bool) → ((i : ℕ) → get_or a i false ≡ get_or b i false) → pack n a ≡ pack n b
unfolding pack packed
pack_ext zero a b e = refl
pack_ext (suc n) a b e =
    ap₂ ◌∷◌ (rw (e 0, e 1, e 2, e 3, e 4, e 5, e 6, e 7)) (pack_ext n (drop 8 a) (drop 8 b) (λ i. rw (get_or-drop 8 a i false, get_or-drop 8 b i false) (e (8 + i))))

pub take_clear : (c : ℕ) (bs : List Bool) → none_set (drop c bs) ≡ true → (i : ℕ) → get_or (take c bs) i false ≡ get_or bs i false
take_clear zero [] h i = refl
take_clear zero (false ∷ bs) h zero = refl
take_clear zero (false ∷ bs) h (suc i) = take_clear zero bs h i
take_clear zero (true ∷ bs) h i = absurd (false≢true h)
take_clear (suc c) [] h i = refl
take_clear (suc c) (b ∷ bs) h zero = refl
take_clear (suc c) (b ∷ bs) h (suc i) = take_clear c bs h i

-- a place, from the bytes of its bits and back
pub pack_place : (c : ℕ) (p : Bytes) → All Byte p → none_set (drop c (bits p)) ≡ true → pack (length p) (take c (bits p)) ≡ p
pack_place c p h k = pack_ext (length p) (take c (bits p)) (bits p) (take_clear c (bits p) k) ∙ pack_bits p h

pub length_pack : (n : ℕ) (b : List Side) → length (pack n b) ≡ n
unfolding pack
length_pack zero b = refl
length_pack (suc n) b = ap suc (length_pack n (drop 8 b))

digit_small : (b : Side) → digit b < 2
digit_small true = omega arith
digit_small false = omega arith

packed_small : (b : List Side) → packed b < 256
unfolding packed
packed_small b =
    omega (
      arith,
      digit_small (get_or b 0 false),
      digit_small (get_or b 1 false),
      digit_small (get_or b 2 false),
      digit_small (get_or b 3 false),
      digit_small (get_or b 4 false),
      digit_small (get_or b 5 false),
      digit_small (get_or b 6 false),
      digit_small (get_or b 7 false),
    )

pub pack_bytes : (n : ℕ) (b : List Side) → All Byte (pack n b)
unfolding pack
pack_bytes zero b = tt
pack_bytes (suc n) b = (packed_small b, pack_bytes n (drop 8 b))

-- the bits of a packed byte are the eight bits, by trying all
eight_bits : Side → Side → Side → Side → Side → Side → Side → Side → Bool
eight_bits a b c d e f g h =
    same_place
    (byte_bits (128 * digit a + 64 * digit b + 32 * digit c + 16 * digit d + 8 * digit e + 4 * digit f + 2 * digit g + digit h))
    (a ∷ b ∷ c ∷ d ∷ e ∷ f ∷ g ∷ h ∷ [])

all_eight : both_bits_lem (λ a. both_bits_lem (λ b. both_bits_lem (λ c. both_bits_lem (λ d. both_bits_lem (λ e. both_bits_lem (λ f. both_bits_lem (λ g. both_bits_lem (eight_bits a b c d e f g)))))))) ≡ true
unfolding eight_bits byte_bits odd
all_eight = refl

byte_bits_packed : (b : List Side) →
    byte_bits (packed b)
    ≡ get_or b 0 false ∷ get_or b 1 false ∷ get_or b 2 false ∷ get_or b 3 false ∷ get_or b 4 false ∷ get_or b 5 false ∷ get_or b 6 false ∷ get_or b 7 false ∷ []
unfolding packed eight_bits
byte_bits_packed s =
    let a = get_or s 0 false in
    let b = get_or s 1 false in
    let c = get_or s 2 false in
    let d = get_or s 3 false in
    let e = get_or s 4 false in
    let f = get_or s 5 false in
    let g = get_or s 6 false in
    let h = get_or s 7 false in
    same_place_lem _ _
    (both_bits (eight_bits a b c d e f g)
    (both_bits (λ g. both_bits_lem (eight_bits a b c d e f g))
    (both_bits (λ f. both_bits_lem (λ g. both_bits_lem (eight_bits a b c d e f g)))
    (both_bits (λ e. both_bits_lem (λ f. both_bits_lem (λ g. both_bits_lem (eight_bits a b c d e f g))))
    (both_bits (λ d. both_bits_lem (λ e. both_bits_lem (λ f. both_bits_lem (λ g. both_bits_lem (eight_bits a b c d e f g)))))
    (both_bits (λ c. both_bits_lem (λ d. both_bits_lem (λ e. both_bits_lem (λ f. both_bits_lem (λ g. both_bits_lem (eight_bits a b c d e f g))))))
    (both_bits (λ b. both_bits_lem (λ c. both_bits_lem (λ d. both_bits_lem (λ e. both_bits_lem (λ f. both_bits_lem (λ g. both_bits_lem (eight_bits a b c d e f g)))))))
    (both_bits (λ a. both_bits_lem (λ b. both_bits_lem (λ c. both_bits_lem (λ d. both_bits_lem (λ e. both_bits_lem (λ f. both_bits_lem (λ g. both_bits_lem (eight_bits a b c d e f g))))))))
    all_eight a) b) c) d) e) f) g) h)

first_byte : (b : List Side) (i : ℕ) → i < 8 → get_or (byte_bits (packed b)) i false ≡ get_or b i false
first_byte b i h = rw (byte_bits_packed b) (go i h)
  where
    go : (j : ℕ) → j < 8 →
        get_or (get_or b 0 false ∷ get_or b 1 false ∷ get_or b 2 false ∷ get_or b 3 false ∷ get_or b 4 false ∷ get_or b 5 false ∷ get_or b 6 false ∷ get_or b 7 false ∷ []) j false
        ≡ get_or b j false
    go zero l = refl
    go (suc zero) l = refl
    go (suc (suc zero)) l = refl
    go (suc (suc (suc zero))) l = refl
    go (suc (suc (suc (suc zero)))) l = refl
    go (suc (suc (suc (suc (suc zero))))) l = refl
    go (suc (suc (suc (suc (suc (suc zero)))))) l = refl
    go (suc (suc (suc (suc (suc (suc (suc zero))))))) l = refl
    go (suc (suc (suc (suc (suc (suc (suc (suc j)))))))) l = absurd (omega arith)

-- bit i of a packed string of bits
pub bit_packed : (n : ℕ) (b : List Side) (i : ℕ) → i < 8 * n → get_or (bits (pack n b)) i false ≡ get_or b i false
unfolding pack
bit_packed zero b i h = absurd (omega arith)
bit_packed (suc n) b i h = go (λ l. bit_packed n (drop 8 b) (i - 8) l) (ltb i 8) refl
  where
    go : (i - 8 < 8 * n → get_or (bits (pack n (drop 8 b))) (i - 8) false ≡ get_or (drop 8 b) (i - 8) false) → (t : Bool) → ltb i 8 ≡ t → get_or (byte_bits (packed b) ++ bits (pack n (drop 8 b))) i false ≡ get_or b i false
    go rest true e =
        let l = ltb-true i 8 e in
        get_or-append (byte_bits (packed b)) (bits (pack n (drop 8 b))) false i (rw length_byte_bits l) ∙ first_byte b i l
    go rest false e =
        let l = ltb-false i 8 e in
        let j : i ≡ length (byte_bits (packed b)) + (i - 8) = omega (arith, length_byte_bits (packed b)) in
        let k : 8 + (i - 8) ≡ i = omega arith in
        ap (λ q. get_or (byte_bits (packed b) ++ bits (pack n (drop 8 b))) q false) j
        ∙ get_or-append-add (byte_bits (packed b)) (bits (pack n (drop 8 b))) (i - 8) false
        ∙ rest (omega arith)
        ∙ get_or-drop 8 b (i - 8) false
        ∙ ap (λ q. get_or b q false) k

-- a place, from its bits to bytes and back
pub place_packed : (n : ℕ) (p : Place) → length p ≤ 8 * n → take (length p) (bits (pack n p)) ≡ p
place_packed n p h =
    ext_get_or false (take (length p) (bits (pack n p))) p long (λ i l.
    get_or-take (length p) (bits (pack n p)) i false (omega (arith, long)) ∙ bit_packed n p i (omega (arith, long)))
  where
    long : length (take (length p) (bits (pack n p))) ≡ length p
    long = simp (length-take, length_bits, length_pack) (omega arith)

pub none_set_lem : (bs : List Side) → ((i : ℕ) → get_or bs i false ≡ false) → none_set bs ≡ true
none_set_lem [] f = refl
none_set_lem (b ∷ bs) f = rw (f 0) (none_set_lem bs (λ i. f (suc i)))

-- its unused bits are zero
pub unused_packed : (n : ℕ) (p : Place) → none_set (drop (length p) (bits (pack n p))) ≡ true
unused_packed n p = none_set_lem (drop (length p) (bits (pack n p))) (λ i. get_or-drop (length p) (bits (pack n p)) i false ∙ go i (ltb (length p + i) (8 * n)) refl)
  where
    go : (i : ℕ) (t : Bool) → ltb (length p + i) (8 * n) ≡ t → get_or (bits (pack n p)) (length p + i) false ≡ false
    go i true e = bit_packed n p (length p + i) (ltb-true _ _ e) ∙ get_or-eq_default p false {n = length p + i} (omega arith)
    go i false e =
        let l = ltb-false (length p + i) (8 * n) e in
        get_or-eq_default (bits (pack n p)) false {n = length p + i} (simp (length_bits, length_pack) (omega arith))
