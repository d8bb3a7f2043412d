-- Document 01, 'The tree of a set of grants': a place is a string of bits, and it grows by one bit at a time. Here it
-- is a value of 32 bytes and a count, its bits in key order, unused bits zero ('Bytes', slot). Assumes nothing.
use Rattle.std.specs.Prelude.{ℕ, ◌+◌, ◌≤◌, ◌≡◌, take}
use Rattle.terms.specs.Bits.{Side, Place, bits, longer, pack}
use Rattle.place.specs.declared.Place as declared

-- The string of bits that a place by value stands for.
unfoldable pub place_of : declared.Place → Place
place_of p = take p.count (bits p.bits)

-- At most 256 bits, and the bytes are those of the bits, unused bits zero.
pub record Proper (p : declared.Place) : Type 0 where
  pub short : p.count ≤ 256
  pub trimmed : p.bits ≡ pack 32 (place_of p)

-- A proper place of n bits that stands for a given string of bits.
pub record Stands (b : Place) (n : ℕ) (r : declared.Place) : Type 0 where
  pub proper : Proper r
  pub place : place_of r ≡ b
  pub count : r.count ≡ n

-- The place r is p, longer by one bit.
pub record Grown (b : Side) (p r : declared.Place) : Type 0 where
  pub proper : Proper r
  pub place : place_of r ≡ longer b (place_of p)
  pub count : r.count ≡ p.count + 1
