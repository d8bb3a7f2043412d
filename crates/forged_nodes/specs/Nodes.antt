-- Request 2026-12: what the search over a store's slots names, case by case. Assumes nothing.
use Rattle.std.specs.Prelude.{ℕ, ◌<◌, ◌≡◌, List, length, get_or, Bool, true, ◌&&◌}
use Rattle.terms.specs.Bits.{Bytes, same_bytes}
use Rattle.terms.specs.Records.{zeros}
use Rattle.sha256.specs.Sha256.{sha256}
use Rattle.terms.specs.declared.Form.TheVariants.{Counted as counted}
use Rattle.layout.specs.Sizes.{room_of}
use Rattle.layout.specs.Headers.{size_right}
use Rattle.layout.specs.Slots.{slot_of}
use Rattle.layout.specs.Stores.{slot_in}
use Rattle.forgery.specs.Finding.{Finding, nothing, two_equal, one_zero}
use Rattle.forged_message.specs.Parts.{message_bytes, first_word}
use Rattle.forged_slot.specs.Slot.{stands_here, message_in}
use Rattle.forged_nodes.specs.declared.Named as declared
use Rattle.forged_nodes.specs.declared.Named.TheVariants.{Nothing, Two, Zero}

-- What is named.
unfoldable pub named_says : declared.Named → Finding
named_says Nothing = nothing
named_says (Two n m) = two_equal (message_bytes n) (message_bytes m)
named_says (Zero m) = one_zero (message_bytes m)

-- A number is the first word of a node's hash; of what is no node it may be any.
abbrev pub WordHere : ℕ → Bytes → ℕ → Type 0
WordHere v x w = stands_here v (slot_of x) ≡ true → w ≡ first_word (sha256 (message_in x))

-- The first words of the first n slots are noted, and of all.
pub record NotedTo (v : ℕ) (s : Bytes) (words : List ℕ) (n : ℕ) : Type 0 where
  pub size : size_right counted (length s) ≡ true
  pub long : length words ≡ 16384
  pub each : (i : ℕ) → i < n → WordHere v (slot_in counted i s) (get_or words i 0)

abbrev pub Noted : ℕ → Bytes → List ℕ → Type 0
Noted v s words = NotedTo v s words (room_of counted (length s))

-- It is a node with hash zero.
unfoldable pub zero_here : ℕ → Bytes → Bool
zero_here v x = stands_here v (slot_of x) && same_bytes (sha256 (message_in x)) zeros
