-- The two blocks of a node's message of 65 bytes, word by word: each word lies within one number of a hash, or on the seam of two.
-- Assumes nothing.
use Prim.Native.Nat.{ℕ, ◌+◌, ◌*◌, ◌/◌, ◌%◌, ◌^◌, ◌<◌}
use mathlib.Core.Path.{◌≡◌, ap, ◌∙◌, sym}
use mathlib.Core.List.{◌∷◌}
use native.Mathlib.Omega.{arith}
use native.Mathlib.Nat.{div-one, mod-eq_of_lt}
use Rattle.terms.specs.Bits.{Bytes}
use Rattle.hash.specs.declared.Hash.{Hash}
use Rattle.hash.specs.Hash.{hash_bytes}
use Rattle.hash.specs.BigEndian.{big, word_at}
use Rattle.hash.proofs.Digits.{big_split, number_big, word_number, word_big}
use Rattle.sha256.specs.declared.State.{State}
use Rattle.sha256.specs.declared.Words.{Words}
use Rattle.sha256.specs.Sha256.{H0, hash_value, padded}
use Rattle.sha256.specs.Rolling.{folded, block_at}
use Rattle.sha256.proofs.Blocks.{block_of_words, value_next}
use Rattle.sha256_second_start.specs.Second.{second_block}
use Rattle.nodehash.specs.Words.{message, seam_word, middle_word}

three_bytes : (y x : ℕ) → word_at (y ∷ big 8 x) 0 ≡ y * 2 ^ 24 + x / 2 ^ 40 % 2 ^ 24
unfolding word_at
three_bytes y x =
    ap (λ (l : Bytes). word_at (y ∷ l) 0) (big_split 3 5 x) ∙ word_number (y ∷ big 3 (x / 2 ^ 40)) 0 (omega arith)
    ∙ ap (λ (k : ℕ). y * 2 ^ 24 + k) (number_big 3 (x / 2 ^ 40))

seam_first : (t x : ℕ) → t < 256 → seam_word t x ≡ word_at (t ∷ big 8 x) 0
unfolding seam_word
seam_first t x h = rw (mod-eq_of_lt h) (sym (three_bytes t x))

seam_word_lem : (x y : ℕ) → seam_word x y ≡ word_at (x / 1 % 256 ∷ big 8 y) 0
unfolding seam_word
seam_word_lem x y = rw (div-one x) (sym (three_bytes (x % 256) y))

middle_word_lem : (x : ℕ) → middle_word x ≡ word_at (big 8 x) 3
unfolding middle_word word_at
middle_word_lem x = sym (ap (λ (l : Bytes). word_at l 3) (big_split 7 1 x) ∙ word_big (x / 2 ^ 8))

pub first_block : (t : ℕ) (l r : Hash) {w0 w1 w2 w3 w4 w5 w6 w7 w8 w9 w10 w11 w12 w13 w14 w15 : ℕ} → t < 256
    → w0 ≡ seam_word t l.a
    → w1 ≡ middle_word l.a
    → w2 ≡ seam_word l.a l.b
    → w3 ≡ middle_word l.b
    → w4 ≡ seam_word l.b l.c
    → w5 ≡ middle_word l.c
    → w6 ≡ seam_word l.c l.d
    → w7 ≡ middle_word l.d
    → w8 ≡ seam_word l.d r.a
    → w9 ≡ middle_word r.a
    → w10 ≡ seam_word r.a r.b
    → w11 ≡ middle_word r.b
    → w12 ≡ seam_word r.b r.c
    → w13 ≡ middle_word r.c
    → w14 ≡ seam_word r.c r.d
    → w15 ≡ middle_word r.d
    → ◌≡◌ {A = Words}
    (record {
      w0 = w0;
      w1 = w1;
      w2 = w2;
      w3 = w3;
      w4 = w4;
      w5 = w5;
      w6 = w6;
      w7 = w7;
      w8 = w8;
      w9 = w9;
      w10 = w10;
      w11 = w11;
      w12 = w12;
      w13 = w13;
      w14 = w14;
      w15 = w15;
    })
    (block_at (padded (message t l r)) 0)
unfolding word_at padded hash_bytes
first_block t l r f h0 h1 h2 h3 h4 h5 h6 h7 h8 h9 h10 h11 h12 h13 h14 h15 =
    block_of_words (padded (message t l r)) 0
    (h0 ∙ seam_first t l.a f)
    (h1 ∙ middle_word_lem l.a)
    (h2 ∙ seam_word_lem l.a l.b)
    (h3 ∙ middle_word_lem l.b)
    (h4 ∙ seam_word_lem l.b l.c)
    (h5 ∙ middle_word_lem l.c)
    (h6 ∙ seam_word_lem l.c l.d)
    (h7 ∙ middle_word_lem l.d)
    (h8 ∙ seam_word_lem l.d r.a)
    (h9 ∙ middle_word_lem r.a)
    (h10 ∙ seam_word_lem r.a r.b)
    (h11 ∙ middle_word_lem r.b)
    (h12 ∙ seam_word_lem r.b r.c)
    (h13 ∙ middle_word_lem r.c)
    (h14 ∙ seam_word_lem r.c r.d)
    (h15 ∙ middle_word_lem r.d)

second_block_lem : (t : ℕ) (l r : Hash) → second_block (r.d % 256 * 16777216 + 8388608) ≡ block_at (padded (message t l r)) 64
unfolding word_at padded hash_bytes block_at
second_block_lem t l r = ap second_block (last_byte r.d)
  where
    last_byte : (x : ℕ) → x % 256 * 16777216 + 8388608 ≡ x / 1 % 256 * 16777216 + 8388608 + 0 + 0
    last_byte x = rw (div-one x) (omega arith)

-- What the two blocks come to.
pub two_blocks : (t : ℕ) (l r : Hash) (z s v : State) (x : Words) (w : ℕ) → z ≡ H0 → x ≡ block_at (padded (message t l r)) 0 → s ≡ folded z x
    → w ≡ r.d % 256 * 16777216 + 8388608 → v ≡ folded s (second_block w) → v ≡ hash_value (padded (message t l r)) 2
two_blocks t l r z s v x w hz hx hs hw hv = ends (padded (message t l r)) hx (ap second_block hw ∙ second_block_lem t l r)
  where
    ends : (p : Bytes) → x ≡ block_at p 0 → second_block w ≡ block_at p 64 → v ≡ hash_value p 2
    ends p e0 e1 =
        let one : s ≡ hash_value p 1 = hs ∙ rw (hz, e0) (sym (value_next p 0)) in
        hv ∙ rw (one, e1) (sym (value_next p 1))
