-- Worked examples of SHA-256: the empty message, and the messages of one block and of two blocks in NIST's examples to
-- FIPS 180-4. Each is computed. Last, the number of zeros in the padding. Assumes nothing.
use Rattle.std.specs.Prelude.{ℕ, ◌+◌, ◌*◌, ◌-◌, ◌%◌, ◌<◌, ◌≡◌, refl, [], ◌∷◌}
use Rattle.std.proofs.Common.{arith}
use Rattle.hash.specs.BigEndian.{word_at}
use Rattle.sha256_words.specs.Words.{Σ₀, Σ₁, σ₀, σ₁}
use Rattle.sha256.specs.Sha256.{K, padded, scheduled, round, added, compressed, sha256}

empty :
    sha256 []
    ≡ 0xe3 ∷ 0xb0 ∷ 0xc4 ∷ 0x42 ∷ 0x98 ∷ 0xfc ∷ 0x1c ∷ 0x14 ∷ 0x9a ∷ 0xfb ∷ 0xf4 ∷ 0xc8 ∷ 0x99 ∷ 0x6f ∷ 0xb9 ∷ 0x24 ∷
    0x27 ∷ 0xae ∷ 0x41 ∷ 0xe4 ∷ 0x64 ∷ 0x9b ∷ 0x93 ∷ 0x4c ∷ 0xa4 ∷ 0x95 ∷ 0x99 ∷ 0x1b ∷ 0x78 ∷ 0x52 ∷ 0xb8 ∷ 0x55 ∷ []
unfolding sha256 padded compressed added round scheduled Σ₀ Σ₁ σ₀ σ₁ K word_at
empty = refl

-- The bytes of 'abc'.
abc :
    sha256 (97 ∷ 98 ∷ 99 ∷ [])
    ≡ 0xba ∷ 0x78 ∷ 0x16 ∷ 0xbf ∷ 0x8f ∷ 0x01 ∷ 0xcf ∷ 0xea ∷ 0x41 ∷ 0x41 ∷ 0x40 ∷ 0xde ∷ 0x5d ∷ 0xae ∷ 0x22 ∷ 0x23 ∷
    0xb0 ∷ 0x03 ∷ 0x61 ∷ 0xa3 ∷ 0x96 ∷ 0x17 ∷ 0x7a ∷ 0x9c ∷ 0xb4 ∷ 0x10 ∷ 0xff ∷ 0x61 ∷ 0xf2 ∷ 0x00 ∷ 0x15 ∷ 0xad ∷ []
unfolding sha256 padded compressed added round scheduled Σ₀ Σ₁ σ₀ σ₁ K word_at
abc = refl

-- The bytes of 'abcdbcdecdefdefgefghfghighijhijkijkljklmklmnlmnomnopnopq'.
two_blocks :
    sha256 (97 ∷ 98 ∷ 99 ∷ 100 ∷ 98 ∷ 99 ∷ 100 ∷ 101 ∷ 99 ∷ 100 ∷ 101 ∷ 102 ∷ 100 ∷ 101 ∷ 102 ∷ 103 ∷ 101 ∷ 102 ∷ 103 ∷
    104 ∷ 102 ∷ 103 ∷ 104 ∷ 105 ∷
    103 ∷ 104 ∷ 105 ∷ 106 ∷ 104 ∷ 105 ∷ 106 ∷ 107 ∷ 105 ∷ 106 ∷ 107 ∷ 108 ∷ 106 ∷ 107 ∷ 108 ∷ 109 ∷ 107 ∷ 108 ∷ 109 ∷
    110 ∷ 108 ∷ 109 ∷ 110 ∷ 111 ∷
    109 ∷ 110 ∷ 111 ∷ 112 ∷ 110 ∷ 111 ∷ 112 ∷ 113 ∷ [])
    ≡ 0x24 ∷ 0x8d ∷ 0x6a ∷ 0x61 ∷ 0xd2 ∷ 0x06 ∷ 0x38 ∷ 0xb8 ∷ 0xe5 ∷ 0xc0 ∷ 0x26 ∷ 0x93 ∷ 0x0c ∷ 0x3e ∷ 0x60 ∷ 0x39 ∷
    0xa3 ∷ 0x3c ∷ 0xe4 ∷ 0x59 ∷ 0x64 ∷ 0xff ∷ 0x21 ∷ 0x67 ∷ 0xf6 ∷ 0xec ∷ 0xed ∷ 0xd4 ∷ 0x19 ∷ 0xdb ∷ 0x06 ∷ 0xc1 ∷ []
unfolding sha256 padded compressed added round scheduled Σ₀ Σ₁ σ₀ σ₁ K word_at
two_blocks = refl

-- 5.1.1 asks for the least k with l + 1 + k = 448 modulo 512, for a message of l bits: seven zero bits end the byte
-- 128, eight make a byte.
zero_bits : (n : ℕ) → let k = 7 + (119 - n % 64) % 64 * 8 in (k < 512) × ((n * 8 + 1 + k) % 512 ≡ 448)
zero_bits n = (omega arith, omega arith)
