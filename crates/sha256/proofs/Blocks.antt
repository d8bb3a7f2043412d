-- One block more: the hash value that the code makes of a block's sixteen words is FIPS's. By the rounds' equality.
-- Assumes nothing.
use Prim.Native.Nat.{ℕ, suc, ◌+◌, ◌*◌}
use mathlib.Core.Path.{◌≡◌, ◌∙◌}
use native.Mathlib.Nat.{add-zero}
use Rattle.terms.specs.Bits.{Bytes}
use Rattle.hash.specs.BigEndian.{word_at}
use Rattle.sha256.specs.declared.Words.{Words}
use Rattle.sha256.specs.Sha256.{M, hash_value}
use Rattle.sha256.specs.Rolling.{folded, block_at}
use Rattle.sha256.proofs.Rolling.{folded_is_compressed}

pub block_of_words : (l : Bytes) (p : ℕ) {w0 w1 w2 w3 w4 w5 w6 w7 w8 w9 w10 w11 w12 w13 w14 w15 : ℕ}
    → w0 ≡ word_at l p
    → w1 ≡ word_at l (p + 4)
    → w2 ≡ word_at l (p + 8)
    → w3 ≡ word_at l (p + 12)
    → w4 ≡ word_at l (p + 16)
    → w5 ≡ word_at l (p + 20)
    → w6 ≡ word_at l (p + 24)
    → w7 ≡ word_at l (p + 28)
    → w8 ≡ word_at l (p + 32)
    → w9 ≡ word_at l (p + 36)
    → w10 ≡ word_at l (p + 40)
    → w11 ≡ word_at l (p + 44)
    → w12 ≡ word_at l (p + 48)
    → w13 ≡ word_at l (p + 52)
    → w14 ≡ word_at l (p + 56)
    → w15 ≡ word_at l (p + 60)
    → ◌≡◌ {A = Words}
    (record {
      w0 = w0;
      w1 = w1;
      w2 = w2;
      w3 = w3;
      w4 = w4;
      w5 = w5;
      w6 = w6;
      w7 = w7;
      w8 = w8;
      w9 = w9;
      w10 = w10;
      w11 = w11;
      w12 = w12;
      w13 = w13;
      w14 = w14;
      w15 = w15;
    })
    (block_at l p)
unfolding block_at
block_of_words l p h0 h1 h2 h3 h4 h5 h6 h7 h8 h9 h10 h11 h12 h13 h14 h15 = rw (h0, h1, h2, h3, h4, h5, h6, h7, h8, h9, h10, h11, h12, h13, h14, h15)

pub value_next : (l : Bytes) (i : ℕ) → hash_value l (suc i) ≡ folded (hash_value l i) (block_at l (i * 64))
unfolding block_at
value_next l i = folded_is_compressed (hash_value l i) (M l i) ∙ rw (add-zero (i * 64))
