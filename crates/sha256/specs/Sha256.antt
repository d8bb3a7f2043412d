-- SHA-256 of whole bytes after FIPS 180-4 from 4.2.2 on, in its order and names; `sha256_words` has what is before.
use Rattle.std.specs.Prelude.{ℕ, zero, suc, ◌+◌, ◌*◌, ◌-◌, ◌/◌, ◌%◌, ◌^◌, cond, List, [], ◌∷◌, ◌++◌, ltb, length, get_or, replicate}
use Rattle.terms.specs.Bits.{Bytes}
use Rattle.hash.specs.BigEndian.{big, word_at}
use Rattle.sha256.specs.declared.State.{State}
use Rattle.sha256_words.specs.Words.{◌⊞◌, Ch, Maj, Σ₀, Σ₁, σ₀, σ₁}

-- 4.2.2: the constants.
unfoldable pub K : List ℕ
K =
    0x428a2f98 ∷ 0x71374491 ∷ 0xb5c0fbcf ∷ 0xe9b5dba5 ∷ 0x3956c25b ∷ 0x59f111f1 ∷ 0x923f82a4 ∷ 0xab1c5ed5 ∷
    0xd807aa98 ∷ 0x12835b01 ∷ 0x243185be ∷ 0x550c7dc3 ∷ 0x72be5d74 ∷ 0x80deb1fe ∷ 0x9bdc06a7 ∷ 0xc19bf174 ∷
    0xe49b69c1 ∷ 0xefbe4786 ∷ 0x0fc19dc6 ∷ 0x240ca1cc ∷ 0x2de92c6f ∷ 0x4a7484aa ∷ 0x5cb0a9dc ∷ 0x76f988da ∷
    0x983e5152 ∷ 0xa831c66d ∷ 0xb00327c8 ∷ 0xbf597fc7 ∷ 0xc6e00bf3 ∷ 0xd5a79147 ∷ 0x06ca6351 ∷ 0x14292967 ∷
    0x27b70a85 ∷ 0x2e1b2138 ∷ 0x4d2c6dfc ∷ 0x53380d13 ∷ 0x650a7354 ∷ 0x766a0abb ∷ 0x81c2c92e ∷ 0x92722c85 ∷
    0xa2bfe8a1 ∷ 0xa81a664b ∷ 0xc24b8b70 ∷ 0xc76c51a3 ∷ 0xd192e819 ∷ 0xd6990624 ∷ 0xf40e3585 ∷ 0x106aa070 ∷
    0x19a4c116 ∷ 0x1e376c08 ∷ 0x2748774c ∷ 0x34b0bcb5 ∷ 0x391c0cb3 ∷ 0x4ed8aa4a ∷ 0x5b9cca4f ∷ 0x682e6ff3 ∷
    0x748f82ee ∷ 0x78a5636f ∷ 0x84c87814 ∷ 0x8cc70208 ∷ 0x90befffa ∷ 0xa4506ceb ∷ 0xbef9a3f7 ∷ 0xc67178f2 ∷ []

-- 5.1.1: the bit 1, which begins the byte 128, and zero bytes, as few as reach 56 beyond whole blocks of 64.
abbrev pub marked : Bytes → Bytes
marked m = m ++ (128 ∷ replicate ((119 - length m % 64) % 64) 0)

-- 5.1.1: then the message's number of bits in 64 bits, modulo 2 ^ 64: no longer message is hashed, nor can one be held.
unfoldable pub padded : Bytes → Bytes
padded m = marked m ++ big 8 (length m * 8)

-- 5.2.1: word t of block i of a padded message.
abbrev pub M : Bytes → ℕ → ℕ → ℕ
M l i t = word_at l (i * 64 + t * 4)

-- The eight words of a hash value, with the names of the working variables.
abbrev pub state : ℕ → ℕ → ℕ → ℕ → ℕ → ℕ → ℕ → ℕ → State
state a b c d e f g h = record { a = a; b = b; c = c; d = d; e = e; f = f; g = g; h = h }

-- 5.3.3: the initial hash value H(0).
abbrev pub H0 : State
H0 = state 0x6a09e667 0xbb67ae85 0x3c6ef372 0xa54ff53a 0x510e527f 0x9b05688c 0x1f83d9ab 0x5be0cd19

-- 6.2.2, 1: W(t) from W(t - 2), W(t - 7), W(t - 15) and W(t - 16).
unfoldable pub scheduled : ℕ → ℕ → ℕ → ℕ → ℕ
scheduled p q r s = σ₁ p ⊞ q ⊞ σ₀ r ⊞ s

-- 6.2.2, 1: the first t words of the message schedule of a block with the words m.
abbrev pub W : (ℕ → ℕ) → ℕ → List ℕ
W m zero = []
W m (suc t) =
    let w = W m t in
    w ++ (cond (ltb t 16) (m t) (scheduled (get_or w (t - 2) 0) (get_or w (t - 7) 0) (get_or w (t - 15) 0)
    (get_or w (t - 16) 0)) ∷ [])

-- 6.2.2, 3: the two sums of a round, with its constant k and its word w.
abbrev pub T₁ : State → ℕ → ℕ → ℕ
T₁ s k w = s.h ⊞ Σ₁ s.e ⊞ Ch s.e s.f s.g ⊞ k ⊞ w

abbrev pub T₂ : State → ℕ
T₂ s = Σ₀ s.a ⊞ Maj s.a s.b s.c

unfoldable pub round : State → ℕ → ℕ → State
round s k w = state (T₁ s k w ⊞ T₂ s) s.a s.b s.c (s.d ⊞ T₁ s k w) s.e s.f s.g

-- 6.2.2, 2 and 3: the working variables after t rounds, from the hash value s and the message schedule w.
abbrev pub rounds : List ℕ → State → ℕ → State
rounds w s zero = s
rounds w s (suc t) = round (rounds w s t) (get_or K t 0) (get_or w t 0)

-- 6.2.2, 4: the working variables x added to the hash value s.
unfoldable pub added : State → State → State
added x s =
    state (x.a ⊞ s.a) (x.b ⊞ s.b) (x.c ⊞ s.c) (x.d ⊞ s.d) (x.e ⊞ s.e) (x.f ⊞ s.f) (x.g ⊞ s.g)
    (x.h ⊞ s.h)

unfoldable pub compressed : State → (ℕ → ℕ) → State
compressed s m = added (rounds (W m 64) s 64) s

-- 6.2.2: the hash value H(i) after i blocks of a padded message.
abbrev pub hash_value : Bytes → ℕ → State
hash_value l zero = H0
hash_value l (suc i) = compressed (hash_value l i) (M l i)

-- 6.2.2: the message digest is the last hash value, word after word.
abbrev pub state_bytes : State → Bytes
state_bytes s =
    big 4 s.a ++ (big 4 s.b ++
    (big 4 s.c ++ (big 4 s.d ++ (big 4 s.e ++ (big 4 s.f ++ (big 4 s.g ++ big 4 s.h))))))

unfoldable pub sha256 : Bytes → Bytes
sha256 m = state_bytes (hash_value (padded m) (length (padded m) / 64))
