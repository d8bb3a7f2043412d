-- The last block of a padded message. Assumes nothing.
use Rattle.std.specs.Prelude.{ℕ, ◌*◌, ◌/◌, ◌%◌, ◌^◌}
use Rattle.sha256.specs.declared.Words.{Words}

-- The words x with the number of bits of a message of n bytes in the last two.
abbrev pub last_of : Words → ℕ → Words
last_of x n =
    record {
      w0 = x.w0;
      w1 = x.w1;
      w2 = x.w2;
      w3 = x.w3;
      w4 = x.w4;
      w5 = x.w5;
      w6 = x.w6;
      w7 = x.w7;
      w8 = x.w8;
      w9 = x.w9;
      w10 = x.w10;
      w11 = x.w11;
      w12 = x.w12;
      w13 = x.w13;
      w14 = n / 2 ^ 29 % 2 ^ 32;
      w15 = n % 2 ^ 29 * 8;
    }
