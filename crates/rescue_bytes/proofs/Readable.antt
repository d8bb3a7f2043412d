-- Bytes of the right size hold slots that a rescue can read: as many as fit, each record in form, whatever the header. Assumes nothing.
use Prim.Native.Nat.{ℕ, ◌+◌, ◌*◌, ◌<◌, ◌≤◌}
use native.Mathlib.Omega.{arith}
use mathlib.Core.Path.{◌≡◌, refl, ap, sym, ◌∙◌, subst}
use mathlib.Core.Bool.{true}
use lib.ListN.{length, get_or, drop}
use Rattle.terms.specs.declared.Form.TheVariants.{Counted as counted}
use Rattle.terms.specs.Bits.{Bytes, Byte, All}
use Rattle.terms.specs.Form.{top32}
use Rattle.terms.specs.Records.{Record, free, used}
use Rattle.terms.proofs.Fields.{length_slice, all_slice}
use Rattle.terms.proofs.Members.{in_get_d}
use Rattle.histories.proofs.Standing.{Formed}
use Rattle.layout.specs.Sizes.{room_of, slot_size, header_size}
use Rattle.layout.specs.Headers.{size_right}
use Rattle.layout.specs.Slots.{slot_of, SlotForm}
use Rattle.layout.specs.Stores.{slot_in, store_of, slots_as, slot_no}
use Rattle.layout.proofs.Headers.{size_says}
use Rattle.layout.proofs.Slots.{slot_form}
use Rattle.layout.proofs.Stores.{length_slots, slot_at_lem}
use Rattle.rescue_laws.proofs.Runs.{Readable}
use Rattle.rescue_bytes.specs.Rescues.{slots_in}

pub slots_many : (s : Bytes) → length (slots_in s) ≡ room_of counted (length s)
unfolding slots_as
slots_many s = length_slots counted (room_of counted (length s)) (drop header_size s)

module _ (s : Bytes) (h : All Byte s) (e : size_right counted (length s) ≡ true) where
  form_at : (i : ℕ) → i < room_of counted (length s) → SlotForm counted (slot_no counted i s)
  unfolding slot_in
  form_at i l =
      let w = (size_says counted (length s) e).0 in
      rw (slot_at_lem counted s i l) (slot_form counted (slot_in counted i s) (length_slice (24 + 128 * i) 128 s (omega arith)) (all_slice (24 + 128 * i) 128 s h))

  pub slots_formed : Formed (slots_in s)
  slots_formed r k =
      let (i, l, g) = in_get_d (slots_in s) free (used r) k in
      (subst (SlotForm counted) g (form_at i (subst (λ n. i < n) (slots_many s) l))).0

  pub readable : (latest : ℕ) → latest ≤ top32 → Readable (slots_in s) latest
  readable latest n =
      let w = size_says counted (length s) e in
      let m = slots_many s in
      record { size = (omega (arith, m), omega (arith, m)); number = n; formed = slots_formed }
