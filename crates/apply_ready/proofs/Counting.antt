-- Counting the free slots: those passed and those to come are all. Assumes nothing.
use Prim.Native.Nat.{ℕ, suc, ◌+◌, ◌<◌, ◌≤◌}
use native.Mathlib.Omega.{arith}
use mathlib.Core.Path.{◌≡◌, refl, sym, ◌∙◌}
use mathlib.Core.Bool.{true, false, true≢false}
use mathlib.Core.List.{List, ◌∷◌}
use lib.ListN.{length, drop}
use Rattle.terms.specs.declared.Form.TheVariants.{Counted as counted}
use Rattle.terms.specs.Bits.{Bytes}
use Rattle.terms.specs.Fields.{all_zero}
use Rattle.terms.specs.Records.{Slot, free, used, spoiled}
use Rattle.meaning.specs.Store.{free_slots}
use Rattle.layout.specs.Sizes.{room_of}
use Rattle.layout.specs.Slots.{slot_of}
use Rattle.layout.specs.Stores.{slot_in, store_of, slot_no}
use Rattle.layout.proofs.Slots.{zero_free, free_zero}
use Rattle.store.proofs.Slots.{slot_is}
use Rattle.store.proofs.Scans.{Scan, scan_start, scan_slot, scan_here, scan_next, scan_end}
use Rattle.apply_place.specs.Placing.{Stored}
use Rattle.apply_place.proofs.Changing.{stored_size}
use Rattle.apply_ready.specs.Ready.{FreeCount}

-- a slot that is free counts one more
free_first : (x : Slot) (s : List Slot) → x ≡ free → free_slots (x ∷ s) ≡ suc (free_slots s)
free_first x s e = rw e

other_first : (x : Slot) (s : List Slot) → (x ≡ free → ⊥) → free_slots (x ∷ s) ≡ free_slots s
other_first free s f = absurd (f refl)
other_first (used r) s f = refl
other_first (spoiled x) s f = refl

-- k free slots and those to come are all
abbrev Rest : Bytes → ℕ → List Slot → List Slot → Type 0
Rest s k xs ys = k + free_slots ys ≡ free_slots (store_of s).slots

-- at slot i of n, with k free slots before it
pub record Counted (s : Bytes) (n k i : ℕ) : Type 0 where
  pub scan : Scan counted s (Rest s k) n i
  pub few : k ≤ i

pub from_none : {s : Bytes} {n : ℕ} → Stored s → n ≡ room_of counted (length s) → Counted s n 0 0
from_none {s} h e = record { scan = scan_start s (Rest s 0) (stored_size h) e (omega arith); few = omega arith }

module _ {s : Bytes} {n k i : ℕ} (w : Counted s n k i) where
  module _ (l : i < n) where
    here : slot_no counted i s ≡ slot_of (slot_in counted i s)
    here = slot_is (scan_slot w.scan l)

    pub one_free : all_zero (slot_in counted i s) ≡ true → Counted s n (k + 1) (i + 1)
    one_free e =
        let f = free_first (slot_no counted i s) (drop (i + 1) (store_of s).slots) (here ∙ zero_free (slot_in counted i s) e) in
        record { scan = scan_next w.scan l (Rest s (k + 1)) (omega (arith, scan_here w.scan l, f)); few = omega (arith, w.few) }

    pub not_one : all_zero (slot_in counted i s) ≡ false → Counted s n k (i + 1)
    not_one e =
        let f = other_first (slot_no counted i s) (drop (i + 1) (store_of s).slots) (λ z. true≢false (sym (free_zero (slot_in counted i s) (sym here ∙ z)) ∙ e)) in
        record { scan = scan_next w.scan l (Rest s k) (omega (arith, scan_here w.scan l, f)); few = omega (arith, w.few) }

  pub all_counted : n ≤ i → FreeCount s k
  all_counted l = record { count = omega (arith, scan_end w.scan l); small = omega (arith, w.few, w.scan.within, w.scan.small) }
