-- Document 01, 'Bytes': the sizes and kinds of header and slot, and where their fields begin. Assumes nothing.
use Rattle.terms.specs.declared.Form.{Form}
use Rattle.terms.specs.declared.Form.TheVariants.{Plain as plain, Counted as counted}
use Rattle.std.specs.Prelude.{ℕ, ◌+◌, ◌*◌, ◌-◌, ◌/◌, cond, eqb}
pub use Rattle.terms.specs.Form.{most_slots}
pub use Rattle.terms.specs.Heads.{count_at, bits_at, version_at, retired_at}

-- Header, 24 bytes: length 24, kind 1 (4 in the counted form), 2 zero, capacity 4, oldest 4, latest 4, 4 zero.
abbrev pub header_size : ℕ
header_size = 24

abbrev pub header_kind : Form → ℕ
header_kind plain = 1
header_kind counted = 4

abbrev pub kind_at : ℕ
kind_at = 4

abbrev pub capacity_at : ℕ
capacity_at = 8

abbrev pub oldest_at : ℕ
oldest_at = 12

abbrev pub latest_at : ℕ
latest_at = 16

-- A slot has 120 bytes, 128 in the counted form.
abbrev pub slot_size : Form → ℕ
slot_size plain = 120
slot_size counted = 128

-- How many slots there is room for in a store of this many bytes.
unfoldable pub room_of : Form → ℕ → ℕ
room_of f n = (n - header_size) / slot_size f

-- Where slot i begins.
abbrev pub slot_at : Form → ℕ → ℕ
slot_at f i = header_size + slot_size f * i

-- The other numbers of header and slot by the names that code and proofs have for them. The header's zero bytes begin
-- here.
abbrev pub gap_at : ℕ
gap_at = 6

abbrev pub header_tail_at : ℕ
header_tail_at = 20

-- The kind of a leaf, and of an inner record in a slot of n bytes.
abbrev pub plain_size : ℕ
plain_size = 120

abbrev pub leaf_kind : ℕ
leaf_kind = 2

abbrev pub inner_kind : ℕ → ℕ
inner_kind n = cond (eqb n plain_size) 3 5

-- A leaf's key 32, value 32, then zero; key and value are its grant.
abbrev pub grant_size : ℕ
grant_size = 64

abbrev pub key_at_lem : ℕ
key_at_lem = 48

abbrev pub value_at : ℕ
value_at = 80

-- An inner record's left version 4, left hash 32, right version 4, right hash 32.
abbrev pub child_size : ℕ
child_size = 36

abbrev pub left_at : ℕ
left_at = 48

abbrev pub right_at : ℕ
right_at = 84

-- One more than the largest number of eight bytes: an address is below it.
abbrev pub most64 : ℕ
most64 = 18446744073709551616
