-- Document 01, 'Bytes', batch record: its size, lengths and kinds, and where its fields begin. All in one place, and
-- nowhere else. Assumes nothing.
use Rattle.std.specs.Prelude.{ℕ}

-- Batch record, 72 bytes: length 72 and kind 1 (insert) or length 40 and kind 2 (delete), 2 zero, key 32, value 32
-- (zero for delete).
abbrev pub record_size : ℕ
record_size = 72

abbrev pub insert_length : ℕ
insert_length = 72

abbrev pub insert_kind : ℕ
insert_kind = 1

abbrev pub delete_length : ℕ
delete_length = 40

abbrev pub delete_kind : ℕ
delete_kind = 2

abbrev pub kind_at : ℕ
kind_at = 4

abbrev pub zero_at : ℕ
zero_at = 6

abbrev pub key_at_lem : ℕ
key_at_lem = 8

abbrev pub value_at : ℕ
value_at = 40

-- At most 1,024 records.
abbrev pub most_records : ℕ
most_records = 1024
