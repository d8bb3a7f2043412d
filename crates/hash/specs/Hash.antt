-- What the four numbers of a hash mean: its 32 bytes, eight to a number. Assumes nothing.
use Rattle.std.specs.Prelude.{◌<◌, ◌^◌, ◌++◌, take, drop}
use Rattle.terms.specs.Bits.{Bytes}
use Rattle.hash.specs.declared.Hash.{Hash}
use Rattle.hash.specs.BigEndian.{big, number}

unfoldable pub hash_bytes : Hash → Bytes
hash_bytes h = big 8 h.a ++ (big 8 h.b ++ (big 8 h.c ++ big 8 h.d))

-- The hash that 32 bytes are.
unfoldable pub hash_of : Bytes → Hash
hash_of x =
    record {
      a = number (take 8 x);
      b = number (take 8 (drop 8 x));
      c = number (take 8 (drop 16 x));
      d = number (take 8 (drop 24 x));
    }

-- Each number is one of the machine's, as in every hash that code holds.
pub record Fits (h : Hash) : Type 0 where
  pub a_fits : h.a < 2 ^ 64
  pub b_fits : h.b < 2 ^ 64
  pub c_fits : h.c < 2 ^ 64
  pub d_fits : h.d < 2 ^ 64
