-- Slot i of a store in lent memory: it lies within the store, is what its bytes are read as, and writing its part leaves all else. Assumes
-- nothing.
use Prim.Native.Nat.{ℕ, ◌+◌, ◌-◌, ◌<◌, ◌≤◌}
use native.Mathlib.Omega.{arith}
use native.Mathlib.Nat.{add-sub_cancel_left}
use mathlib.Core.Path.{◌≡◌, ap, ap₂, sym, ◌∙◌}
use mathlib.Core.Bool.{true, false}
use mathlib.Core.List.{◌++◌}
use lib.ListN.{length, take, drop}
use Rattle.terms.specs.declared.Form.{Form}
use Rattle.terms.specs.declared.Form.TheVariants.{Plain as plain, Counted as counted}
use Rattle.terms.specs.Bits.{Bytes, Byte, Side, left, right, All}
use Rattle.terms.specs.Records.{count_on}
use Rattle.terms.specs.Fields.{field, slice}
use Rattle.terms.proofs.Fields.{length_slice, field_slice, all_slice}
use Rattle.fields.specs.Written.{written}
use Rattle.fields.proofs.Written.{part_written}
use Rattle.layout.specs.Sizes.{slot_size, room_of, slot_at}
use Rattle.layout.specs.Headers.{size_right}
use Rattle.layout.specs.Slots.{counts_in, slot_of, SlotForm}
use Rattle.layout.specs.Stores.{slot_in, slots_as, store_in, slot_no, Has, SlotWithin}
use Rattle.layout.proofs.Headers.{size_small, slot_before, size_ends}
use Rattle.layout.proofs.Slots.{slot_form, plain_counts}
use Rattle.layout.proofs.Stores.{slot_at_lem, length_slots}

-- a store has as many slots as there is room for
pub slots_many : (fm : Form) (s : Bytes) → length (store_in fm s).slots ≡ room_of fm (length s)
unfolding slots_as
slots_many fm s = length_slots fm (room_of fm (length s)) _

-- a slot that lies within the bytes has its length
pub slot_long : (fm : Form) (i : ℕ) (s : Bytes) → SlotWithin fm i s → length (slot_in fm i s) ≡ slot_size fm
unfolding slot_in
slot_long fm i s h = length_slice (slot_at fm i) (slot_size fm) s h

pub slot_bytes_lem : (fm : Form) (i : ℕ) (s : Bytes) → All Byte s → All Byte (slot_in fm i s)
unfolding slot_in
slot_bytes_lem fm i s b = all_slice (slot_at fm i) (slot_size fm) s b

pub slot_fits : (fm : Form) (s : Bytes) → size_right fm (length s) ≡ true → (i : ℕ) → i < room_of fm (length s) → SlotWithin fm i s
slot_fits fm s e i h = omega (arith, size_ends fm (length s) e, slot_before fm i (room_of fm (length s)) h)

-- a slot that a store has
module _ {fm : Form} {s : Bytes} {i : ℕ} (h : Has fm s i) where
  pub slot_within : SlotWithin fm i s
  slot_within = slot_fits fm s h.size i h.inside

  pub slot_is : slot_no fm i s ≡ slot_of (slot_in fm i s)
  slot_is = slot_at_lem fm s i h.inside

  pub slot_formed : All Byte s → SlotForm fm (slot_of (slot_in fm i s))
  slot_formed b = slot_form fm (slot_in fm i s) (slot_long fm i s slot_within) (slot_bytes_lem fm i s b)

-- the part that is lent, from where the slot begins and as long as it is
module _ (fm : Form) (i : ℕ) (s : Bytes) {at size : ℕ} (a : at ≡ slot_at fm i) (z : size ≡ slot_size fm) where
  pub part_is : take (at + size - at) (drop at s) ≡ slot_in fm i s
  unfolding slot_in slice
  part_is = ap (λ n. take n (drop at s)) (add-sub_cancel_left at size) ∙ ap₂ (λ n m. take n (drop m s)) z a

  module _ (h : SlotWithin fm i s) where
    pub part_long : length (take (at + size - at) (drop at s)) ≡ slot_size fm
    part_long = ap length part_is ∙ slot_long fm i s h

    -- the part came back as f
    pub part_put : {y : Bytes} (f : Bytes) → y ≡ f → length y ≡ length (take (at + size - at) (drop at s)) →
        take at s ++ (y ++ drop (at + size - at) (drop at s)) ≡ written (slot_at fm i) f s
    part_put f e l =
        let k : length f ≡ size = ap length (sym e) ∙ l ∙ part_long ∙ sym z in
        rw e (part_written at (at + size) f s (ap (at +◌) k) ∙ ap (λ n. written n f s) a)

-- a field of slot i, by its place in the store
pub field_at : (fm : Form) (i j n : ℕ) (s : Bytes) {at : ℕ} → at ≡ slot_at fm i → j + n ≤ 120 → field (at + j) n s ≡ field j n (slot_in fm i s)
unfolding slot_in
field_at fm i j n s a h = ap (λ m. field (m + j) n s) a ∙ sym (field_slice (slot_at fm i) (slot_size fm) j n s (omega (arith, size_small fm)))

-- the counts
pub count_plain : (i : ℕ) (s : Bytes) → SlotWithin plain i s → (b : Side) → count_on b (counts_in (slot_in plain i s)) ≡ 0
count_plain i s h false = ap (λ c. c.leftward) (plain_counts (slot_in plain i s) (slot_long plain i s h))
count_plain i s h true = ap (λ c. c.rightward) (plain_counts (slot_in plain i s) (slot_long plain i s h))

pub left_count : (i : ℕ) (s : Bytes) {at : ℕ} → at ≡ slot_at counted i → field (at + 120) 4 s ≡ count_on left (counts_in (slot_in counted i s))
unfolding slot_in counts_in
left_count i s a = ap (λ m. field (m + 120) 4 s) a ∙ sym (field_slice (slot_at counted i) 128 120 4 s (omega arith))

pub right_count : (i : ℕ) (s : Bytes) {at : ℕ} → at ≡ slot_at counted i → field (at + 124) 4 s ≡ count_on right (counts_in (slot_in counted i s))
unfolding slot_in counts_in
right_count i s a = ap (λ m. field (m + 124) 4 s) a ∙ sym (field_slice (slot_at counted i) 128 124 4 s (omega arith))
