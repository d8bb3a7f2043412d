-- Document 02, 2026-07, over the bytes of a store: the lowest used slot whose version, bit count and bits fields agree.
use Rattle.std.specs.Prelude.{ℕ, ◌<◌, ◌≡◌, length}
use Rattle.terms.specs.declared.Form.TheVariants.{Counted as counted}
use Rattle.terms.specs.Bits.{Bytes}
use Rattle.terms.specs.Fields.{zero_bytes}
use Rattle.layout.specs.Sizes.{slot_size, room_of}
use Rattle.layout.specs.Stores.{slot_in}

-- Slot i is the lowest used slot, that is not all zero, whose bytes agree.
pub record LowestUsed (s : Bytes) (agree : Bytes → Type 0) (i : ℕ) : Type 0 where
  pub inside : i < room_of counted (length s)
  pub used : slot_in counted i s ≡ zero_bytes (slot_size counted) → ⊥
  pub agrees : agree (slot_in counted i s)
  pub lowest : (j : ℕ) → j < i → (slot_in counted j s ≡ zero_bytes (slot_size counted) → ⊥) →
      agree (slot_in counted j s) → ⊥
