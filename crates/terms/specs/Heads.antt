-- Document 01, 'Bytes', slot: the fields that leaf and inner records share, whatever the slot holds. Assumes nothing.
use Rattle.std.specs.Prelude.{ℕ}
use Rattle.terms.specs.Bits.{Bytes}
use Rattle.terms.specs.Fields.{field, slice}

-- The bit count 2, the bits of the place 32 in key order, version 4, retired-since 4, after length 4 and kind 2.
unfoldable pub count_in : Bytes → ℕ
count_in x = field 6 2 x

abbrev pub bits_in : Bytes → Bytes
bits_in x = slice 8 32 x

abbrev pub version_in : Bytes → ℕ
version_in x = field 40 4 x

abbrev pub since_in : Bytes → ℕ
since_in x = field 44 4 x

-- Where they begin, by name.
abbrev pub count_at : ℕ
count_at = 6

abbrev pub bits_at : ℕ
bits_at = 8

abbrev pub version_at : ℕ
version_at = 40

abbrev pub retired_at : ℕ
retired_at = 44
