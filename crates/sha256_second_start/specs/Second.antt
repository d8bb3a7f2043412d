-- The words of the second block of a message of 65 bytes. Assumes nothing.
use Rattle.std.specs.Prelude.{ℕ}
use Rattle.sha256.specs.declared.Words.{Words}

-- The second block, whose first word has the message's last byte and the byte 128: then zeros, and 520, the message's
-- number of bits.
abbrev pub second_block : ℕ → Words
second_block k =
    record {
      w0 = k;
      w1 = 0;
      w2 = 0;
      w3 = 0;
      w4 = 0;
      w5 = 0;
      w6 = 0;
      w7 = 0;
      w8 = 0;
      w9 = 0;
      w10 = 0;
      w11 = 0;
      w12 = 0;
      w13 = 0;
      w14 = 0;
      w15 = 520;
    }
