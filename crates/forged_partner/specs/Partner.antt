-- Request 2026-12: a slot with another message than a given one and the same hash. Assumes nothing.
use Rattle.std.specs.Prelude.{ℕ, Bool, ◌&&◌, not}
use Rattle.terms.specs.Bits.{Bytes, same_bytes}
use Rattle.sha256.specs.Sha256.{sha256}
use Rattle.layout.specs.Slots.{slot_of}
use Rattle.forged_slot.specs.Slot.{stands_here, message_in}

-- It is a node with another message than m and the same hash.
unfoldable pub partner_here : ℕ → Bytes → Bytes → Bool
partner_here v m x =
    stands_here v (slot_of x) && (not (same_bytes (message_in x) m) && same_bytes (sha256 (message_in x)) (sha256 m))
