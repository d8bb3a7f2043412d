-- The search over the slots for a hash that is zero: what is found is found among the slots to come. Assumes nothing.
use Prim.Native.Nat.{ℕ, ◌+◌, ◌<◌, ◌≤◌}
use mathlib.Core.Path.{◌≡◌, refl, ap, sym, ◌∙◌}
use mathlib.Core.Bool.{true, false}
use mathlib.Core.List.{List, [], ◌∷◌}
use lib.ListN.{length, drop}
use Rattle.terms.specs.declared.Form.TheVariants.{Counted as counted}
use Rattle.terms.specs.Bits.{Bytes}
use Rattle.terms.specs.Records.{Slot}
use Rattle.sha256.specs.Sha256.{sha256}
use Rattle.layout.specs.Sizes.{room_of}
use Rattle.layout.specs.Headers.{size_right}
use Rattle.layout.specs.Slots.{slot_of}
use Rattle.layout.specs.Stores.{slot_in, store_of}
use Rattle.store.proofs.Slots.{slot_is}
use Rattle.store.proofs.Scans.{Scan, scan_start, scan_slot, scan_here, scan_next, scan_end}
use Rattle.forgery.specs.Messages.{node_messages}
use Rattle.forgery.specs.Finding.{one_zero, zero_among}
use Rattle.forged_message.specs.declared.Message.{Message}
use Rattle.forged_message.specs.Parts.{message_bytes}
use Rattle.forged_slot.specs.Slot.{message_in}
use Rattle.forged_nodes.specs.Nodes.{named_says, zero_here}
use Rattle.forged_nodes.specs.declared.Named.TheVariants.{Nothing, Zero}
use Rattle.forged_nodes.proofs.Noting.{zero_past, zero_at_lem}

abbrev pub ZeroAhead : Bytes → ℕ → List Slot → List Slot → Type 0
ZeroAhead s v xs ys = zero_among sha256 (node_messages v (store_of s).slots) ≡ zero_among sha256 (node_messages v ys)

pub zero_start : (s : Bytes) (v : ℕ) {n : ℕ} → size_right counted (length s) ≡ true → n ≡ room_of counted (length s) → Scan counted s (ZeroAhead s v) n 0
zero_start s v e k = scan_start s (ZeroAhead s v) e k refl

module _ {s : Bytes} (v : ℕ) {n i : ℕ} (w : Scan counted s (ZeroAhead s v) n i) where
  abbrev after : List Slot
  after = drop (i + 1) (store_of s).slots

  zero_here_lem : i < n → ZeroAhead s v [] (slot_of (slot_in counted i s) ∷ after)
  zero_here_lem h = scan_here w h ∙ ap (λ y. zero_among sha256 (node_messages v (y ∷ after))) (slot_is (scan_slot w h))

  pub zero_next : i < n → zero_here v (slot_in counted i s) ≡ false → Scan counted s (ZeroAhead s v) n (i + 1)
  zero_next h e = scan_next w h (ZeroAhead s v) (zero_here_lem h ∙ zero_past v (slot_in counted i s) (node_messages v after) e)

  pub zero_found : i < n → zero_here v (slot_in counted i s) ≡ true → (node : Message) → message_bytes node ≡ message_in (slot_in counted i s) →
      named_says (Zero node) ≡ zero_among sha256 (node_messages v (store_of s).slots)
  unfolding named_says
  zero_found h e node f = ap one_zero f ∙ sym (zero_here_lem h ∙ zero_at_lem v (slot_in counted i s) (node_messages v after) e)

  pub no_zero : n ≤ i → named_says Nothing ≡ zero_among sha256 (node_messages v (store_of s).slots)
  unfolding named_says
  no_zero h = sym (scan_end w h)
