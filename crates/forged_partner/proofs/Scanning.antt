-- The search over the slots for a partner: what is found is found among the slots to come. Assumes nothing.
use Prim.Native.Nat.{ℕ, ◌+◌, ◌<◌, ◌≤◌}
use mathlib.Core.Path.{◌≡◌, refl, ap, sym, ◌∙◌}
use mathlib.Core.Bool.{true, false}
use mathlib.Core.List.{List, [], ◌∷◌}
use lib.ListN.{length, drop}
use Rattle.terms.specs.declared.Form.TheVariants.{Counted as counted}
use Rattle.terms.specs.Bits.{Bytes}
use Rattle.terms.specs.Records.{Slot}
use Rattle.sha256.specs.Sha256.{sha256}
use Rattle.layout.specs.Sizes.{room_of}
use Rattle.layout.specs.Headers.{size_right}
use Rattle.layout.specs.Slots.{slot_of}
use Rattle.layout.specs.Stores.{slot_in, store_of}
use Rattle.store.proofs.Slots.{slot_is}
use Rattle.store.proofs.Scans.{Scan, scan_start, scan_slot, scan_here, scan_next, scan_end}
use Rattle.forgery.specs.Messages.{node_messages}
use Rattle.forgery.specs.Finding.{two_equal, partner}
use Rattle.forged_message.specs.declared.Message.{Message}
use Rattle.forged_message.specs.Parts.{message_bytes}
use Rattle.forged_slot.specs.Slot.{message_in}
use Rattle.forged_nodes.specs.Nodes.{named_says}
use Rattle.forged_nodes.specs.declared.Named.TheVariants.{Nothing, Two}
use Rattle.forged_partner.specs.Partner.{partner_here}
use Rattle.forged_partner.proofs.Partnering.{partner_past, partner_at}

abbrev pub Ahead : Bytes → ℕ → Bytes → List Slot → List Slot → Type 0
Ahead s v m xs ys = partner sha256 m (node_messages v (store_of s).slots) ≡ partner sha256 m (node_messages v ys)

pub partner_start : (s : Bytes) (v : ℕ) (m : Bytes) {n : ℕ} → size_right counted (length s) ≡ true → n ≡ room_of counted (length s) → Scan counted s (Ahead s v m) n 0
partner_start s v m e k = scan_start s (Ahead s v m) e k refl

module _ {s : Bytes} (v : ℕ) (m : Message) {n i : ℕ} (w : Scan counted s (Ahead s v (message_bytes m)) n i) where
  abbrev rest : List Slot
  rest = drop (i + 1) (store_of s).slots

  here : i < n → Ahead s v (message_bytes m) [] (slot_of (slot_in counted i s) ∷ rest)
  here h = scan_here w h ∙ ap (λ y. partner sha256 (message_bytes m) (node_messages v (y ∷ rest))) (slot_is (scan_slot w h))

  pub partner_next : i < n → partner_here v (message_bytes m) (slot_in counted i s) ≡ false → Scan counted s (Ahead s v (message_bytes m)) n (i + 1)
  partner_next h e =
      scan_next w h (Ahead s v (message_bytes m)) (here h ∙ partner_past v (message_bytes m) (slot_in counted i s) (node_messages v rest) e)

  pub partner_found : i < n → partner_here v (message_bytes m) (slot_in counted i s) ≡ true → (node : Message) → message_bytes node ≡ message_in (slot_in counted i s) →
      named_says (Two node m) ≡ partner sha256 (message_bytes m) (node_messages v (store_of s).slots)
  unfolding named_says
  partner_found h e node f =
      ap (λ x. two_equal x (message_bytes m)) f
      ∙ sym (here h ∙ partner_at v (message_bytes m) (slot_in counted i s) (node_messages v rest) e)

  pub no_partner : n ≤ i → named_says Nothing ≡ partner sha256 (message_bytes m) (node_messages v (store_of s).slots)
  unfolding named_says
  no_partner h = sym (scan_end w h)
