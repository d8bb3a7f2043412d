-- Document 02, request 2026-08: the three numbers are those of 'the two buffers compared', slot by slot.
use Rattle.std.specs.Prelude.{ℕ, zero, suc, cond, length, take, drop}
use Rattle.terms.specs.declared.Form.TheVariants.{Counted as counted}
use Rattle.terms.specs.Bits.{Bytes, same_bytes}
use Rattle.terms.specs.Fields.{all_zero}
use Rattle.layout.specs.Sizes.{header_size, slot_size, room_of}
use Rattle.rescue_rules.specs.Rescue.{Counts}

-- A used slot, not all zero, is left out where the target's is free; it is kept as it was where the bytes are the same,
-- else with another retired-since.
abbrev pub compared_bytes : Bytes → Bytes → Counts → Counts
compared_bytes x y c =
    cond (all_zero x) c
    (cond (all_zero y) (record { same = c.same; other = c.other; out = suc c.out })
    (cond (same_bytes x y) (record { same = suc c.same; other = c.other; out = c.out })
    (record { same = c.same; other = suc c.other; out = c.out })))

-- The n slots of a size at the front of two byte strings.
abbrev pub compared_slots : ℕ → ℕ → Bytes → Bytes → Counts
compared_slots size zero s t = record { same = 0; other = 0; out = 0 }
compared_slots size (suc n) s t =
    compared_bytes (take size s) (take size t) (compared_slots size n (drop size s) (drop size t))

-- Those of a source and a target.
unfoldable pub numbers_of : Bytes → Bytes → Counts
numbers_of s t =
    compared_slots (slot_size counted) (room_of counted (length s)) (drop header_size s) (drop header_size t)
