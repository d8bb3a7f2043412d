-- Document 01, 'Bytes', 'The tree of a set of grants': byte strings, keys, places, the order of keys. Assumes nothing.
use Rattle.std.specs.Prelude.{ℕ, zero, suc, ◌+◌, ◌*◌, ◌<◌, ◌/◌, ◌%◌, ◌≡◌, Bool, true, false, cond, not, ◌&&◌, ◌||◌, List, [], ◌∷◌, ◌++◌, length, get_or, drop, ltb, eqb}
use Rattle.std.specs.Bool.{beq}

-- The entries that pass a test, in their order.
abbrev pub filter {ℓ} : {A : Type ℓ} → (A → Bool) → List A → List A
filter f [] = []
filter f (x ∷ xs) = cond (f x) (x ∷ filter f xs) (filter f xs)

-- Each entry has the property.
abbrev pub All {ℓ} : {A : Type ℓ} → (A → Type 0) → List A → Type 0
All P [] = Unit {0}
All P (x ∷ xs) = P x × All P xs

-- A byte string is a list of numbers, each below 256.
abbrev pub Bytes : Type 0
Bytes = List ℕ

abbrev pub Byte : ℕ → Type 0
Byte x = x < 256

-- A key, a value and a hash have 32 bytes.
abbrev pub Whole32 : Bytes → Type 0
Whole32 x = (length x ≡ 32) × All Byte x

-- A bit is a Bool; bit 0 means left, 1 right.
abbrev pub Side : Type 0
Side = Bool

abbrev pub left : Side
left = false

abbrev pub right : Side
right = true

-- A place is a string of bits.
abbrev pub Place : Type 0
Place = List Side

-- A place grows by one bit at a time.
unfoldable pub longer : Side → Place → Place
longer b p = p ++ (b ∷ [])

unfoldable pub odd : ℕ → Bool
odd n = eqb (n % 2) 1

-- The bits of a byte, the top bit first.
unfoldable pub byte_bits : ℕ → List Side
byte_bits x =
    odd (x / 128) ∷ odd (x / 64) ∷ odd (x / 32) ∷ odd (x / 16) ∷ odd (x / 8) ∷ odd (x / 4) ∷ odd (x / 2) ∷ odd x ∷ []

-- The bits of a byte string: bit 0 of a key is the top bit of byte 0.
abbrev pub bits : Bytes → List Side
bits [] = []
bits (x ∷ xs) = byte_bits x ++ bits xs

unfoldable pub bit : ℕ → Bytes → Side
bit i k = get_or (bits k) i left

abbrev pub digit : Side → ℕ
digit false = 0
digit true = 1

-- The byte of eight bits, the top bit first; missing ones are 0.
unfoldable pub packed : List Side → ℕ
packed b =
    let d : ℕ → ℕ = λ i. digit (get_or b i left) in
    128 * d 0 + 64 * d 1 + 32 * d 2 + 16 * d 3 + 8 * d 4 + 4 * d 5 + 2 * d 6 + d 7

-- A string of bits in n bytes, unused bits zero.
unfoldable pub pack : ℕ → List Side → Bytes
pack zero b = []
pack (suc n) b = packed b ∷ pack n (drop 8 b)

-- No bit is set.
abbrev pub none_set : List Side → Bool
none_set [] = true
none_set (b ∷ bs) = not b && none_set bs

-- A string of bits begins with a place.
abbrev pub prefix : Place → List Side → Bool
prefix [] bs = true
prefix (b ∷ p) [] = false
prefix (b ∷ p) (c ∷ bs) = beq b c && prefix p bs

-- A key begins with a place.
unfoldable pub begins : Place → Bytes → Bool
begins p k = prefix p (bits k)

-- The order of keys as byte strings: x comes before y.
abbrev pub before : Bytes → Bytes → Bool
before [] [] = false
before [] (y ∷ ys) = true
before (x ∷ xs) [] = false
before (x ∷ xs) (y ∷ ys) = ltb x y || (eqb x y && before xs ys)

abbrev pub same_bytes : Bytes → Bytes → Bool
same_bytes [] [] = true
same_bytes [] (y ∷ ys) = false
same_bytes (x ∷ xs) [] = false
same_bytes (x ∷ xs) (y ∷ ys) = eqb x y && same_bytes xs ys

abbrev pub same_place : Place → Place → Bool
same_place [] [] = true
same_place [] (c ∷ q) = false
same_place (b ∷ p) [] = false
same_place (b ∷ p) (c ∷ q) = beq b c && same_place p q
