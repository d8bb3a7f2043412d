-- Document 01, 'Bytes', header, and refusals 1 and 2: what a store's length and first 24 bytes say. Assumes nothing.
use Rattle.std.specs.Prelude.{ℕ, ◌+◌, ◌*◌, Bool, cond, List, [], ◌∷◌, length, eqb, leb}
use Rattle.terms.specs.declared.Form.{Form}
use Rattle.terms.specs.Bits.{Bytes}
use Rattle.terms.specs.Fields.{le, field, slice, zero_bytes, all_zero, flat, all_of}
use Rattle.layout.specs.Sizes.{
  header_size,
  header_kind,
  most_slots,
  kind_at,
  gap_at,
  capacity_at,
  oldest_at,
  latest_at,
  header_tail_at,
  slot_size,
  room_of,
}

-- What reading a header says: a number of refusal, or capacity, oldest and latest.
pub data Headed : Type 0 where
  refusal : ℕ → Headed
  header : ℕ → ℕ → ℕ → Headed

-- Refusal 1: the store's length isn't 24 + 120n, or 24 + 128n in the counted form, n in 1 to 16,384.
unfoldable pub size_right : Form → ℕ → Bool
size_right f n =
    all_of (eqb n (header_size + slot_size f * room_of f n) ∷ leb 1 (room_of f n) ∷ leb (room_of f n) most_slots ∷ [])

-- Refusal 2: a header field isn't as 'Bytes' says, its capacity isn't n, or oldest is above latest.
unfoldable pub header_right : Form → Bytes → Bool
header_right f s =
    all_of
    (eqb (field 0 4 s) header_size ∷ eqb (field kind_at 2 s) (header_kind f) ∷ all_zero (slice 6 2 s)
    ∷ eqb (field capacity_at 4 s) (room_of f (length s)) ∷ leb (field oldest_at 4 s) (field latest_at 4 s)
    ∷ all_zero (slice 20 4 s) ∷ [])

-- The answer of reading a header.
unfoldable pub header_of : Form → Bytes → Headed
header_of f s =
    cond (size_right f (length s))
    (cond (header_right f s) (header (field capacity_at 4 s) (field oldest_at 4 s) (field latest_at 4 s)) (refusal 2))
    (refusal 1)

-- The 24 bytes of a header.
unfoldable pub header_bytes : Form → ℕ → ℕ → ℕ → Bytes
header_bytes f n oldest latest =
    flat (le 4 header_size ∷ le 2 (header_kind f) ∷ zero_bytes 2 ∷ le 4 n ∷ le 4 oldest ∷ le 4 latest
    ∷ zero_bytes 4 ∷ [])

-- The tests of a header as a list, which proofs go along.
abbrev pub header_tests : Form → Bytes → List Bool
header_tests f s =
    eqb (field 0 4 s) header_size ∷ eqb (field kind_at 2 s) (header_kind f) ∷ all_zero (slice gap_at 2 s)
    ∷ eqb (field capacity_at 4 s) (room_of f (length s)) ∷ leb (field oldest_at 4 s) (field latest_at 4 s)
    ∷ all_zero (slice header_tail_at 4 s) ∷ []
