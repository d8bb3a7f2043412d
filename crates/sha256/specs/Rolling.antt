-- The words of a block, and the rounds as the code goes through them: it holds sixteen words of the message schedule at
-- a time. `proofs/Rolling.antt` shows that this comes to FIPS's rounds. Assumes nothing.
use Rattle.std.specs.Prelude.{ℕ, zero, suc, ◌+◌, get_or}
use Rattle.terms.specs.Bits.{Bytes}
use Rattle.hash.specs.BigEndian.{word_at}
use Rattle.sha256.specs.declared.State.{State}
use Rattle.sha256.specs.declared.Words.{Words}
use Rattle.sha256.specs.Sha256.{K, scheduled, round, added}

-- The words W(t) to W(t + 15), one further.
abbrev pub roll : Words → Words
roll x =
    record {
      w0 = x.w1;
      w1 = x.w2;
      w2 = x.w3;
      w3 = x.w4;
      w4 = x.w5;
      w5 = x.w6;
      w6 = x.w7;
      w7 = x.w8;
      w8 = x.w9;
      w9 = x.w10;
      w10 = x.w11;
      w11 = x.w12;
      w12 = x.w13;
      w13 = x.w14;
      w14 = x.w15;
      w15 = scheduled x.w14 x.w9 x.w1 x.w0;
    }

-- The same, n further.
abbrev pub rolls : ℕ → Words → Words
rolls zero x = x
rolls (suc n) x = roll (rolls n x)

-- The n rounds from round t on, where x has the words W(t) to W(t + 15).
abbrev pub turns : ℕ → ℕ → State → Words → State
turns t zero s x = s
turns t (suc n) s x = round (turns t n s x) (get_or K (t + n) 0) (rolls n x).w0

-- The hash value after one block, from the hash value s and the block's words.
unfoldable pub folded : State → Words → State
folded s x = added (turns 0 64 s x) s

-- The sixteen words from byte p on.
unfoldable pub block_at : Bytes → ℕ → Words
block_at l p =
    record {
      w0 = word_at l p;
      w1 = word_at l (p + 4);
      w2 = word_at l (p + 8);
      w3 = word_at l (p + 12);
      w4 = word_at l (p + 16);
      w5 = word_at l (p + 20);
      w6 = word_at l (p + 24);
      w7 = word_at l (p + 28);
      w8 = word_at l (p + 32);
      w9 = word_at l (p + 36);
      w10 = word_at l (p + 40);
      w11 = word_at l (p + 44);
      w12 = word_at l (p + 48);
      w13 = word_at l (p + 52);
      w14 = word_at l (p + 56);
      w15 = word_at l (p + 60);
    }
