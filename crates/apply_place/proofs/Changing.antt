-- Bytes that are those of a store, and changes of its slots one after the other: reading gives back what was written. Assumes nothing.
use Prim.Native.Nat.{ℕ, ◌<◌, ◌≤◌}
use native.Mathlib.Omega.{arith}
use mathlib.Core.Path.{◌≡◌, ap, sym, ◌∙◌, subst}
use mathlib.Core.Bool.{Bool, true, false}
use mathlib.Core.List.{List}
use lib.ListN.{length, get_or, set}
use Rattle.terms.specs.declared.Form.TheVariants.{Counted as counted}
use Rattle.terms.specs.Bits.{Bytes}
use Rattle.terms.specs.Records.{Record, Slot, Store, free, used}
use Rattle.terms.specs.Form.{top32}
use Rattle.terms.proofs.Lists.{all_at}
use Rattle.meaning.specs.Store.{marked}
use Rattle.layout.specs.Sizes.{room_of}
use Rattle.layout.specs.Headers.{size_right}
use Rattle.layout.specs.Slots.{SlotForm}
use Rattle.layout.specs.Stores.{store_of, store_bytes, SlotWithin, with_slot, with_since, StoreForm, put_slot}
use Rattle.layout.proofs.Headers.{Accepted, accepted, room_of_lem}
use Rattle.layout.proofs.Stores.{store_said, store_accepted, store_size, slot_put_form, slot_put_bytes, retired_put_bytes}
use Rattle.apply_place.specs.Placing.{Stored, put_slots, Changed, when_writes}

-- the bytes of a store in form are read as the store
module _ {f : List Slot → List Slot} {s s' : Bytes} (c : Changed f s s') where
  pub changed_store : store_of s' ≡ put_slots (f (store_of s).slots) (store_of s)
  unfolding put_slots
  changed_store = ap store_of c.bytes ∙ store_said (put_slots (f (store_of s).slots) (store_of s)) c.form

  pub changed_stored : Stored s'
  changed_stored = record { bytes = c.bytes ∙ ap store_bytes (sym changed_store); form = rw changed_store c.form }

  pub changed_slots : (store_of s').slots ≡ f (store_of s).slots
  unfolding put_slots
  changed_slots = ap (λ (st : Store). st.slots) changed_store

-- size and header are right
pub stored_accepted : {s : Bytes} → Stored s → Accepted counted s (length (store_of s).slots) (store_of s).oldest (store_of s).latest
stored_accepted {s} h =
    subst (λ x. Accepted counted x (length (store_of s).slots) (store_of s).oldest (store_of s).latest) (sym h.bytes)
    (accepted (store_bytes (store_of s)) _ _ _ (store_accepted (store_of s) h.form))

pub stored_size : {s : Bytes} → Stored s → size_right counted (length s) ≡ true
stored_size {s} h = subst (λ t. size_right counted (length t) ≡ true) (sym h.bytes) (store_size (store_of s) h.form)

pub stored_room : {s : Bytes} → Stored s → room_of counted (length s) ≡ length (store_of s).slots
stored_room {s} h = room_of_lem counted (length s) _ (stored_accepted h).size

-- slot i lies within the bytes
pub slot_within : {s : Bytes} → Stored s → (i : ℕ) → i < length (store_of s).slots → SlotWithin counted i s
slot_within h i l = let a = stored_accepted h in omega (arith, a)

-- nothing changed
pub unchanged : {s : Bytes} → Stored s → Changed (λ x. x) s s
unfolding put_slots
unchanged h = record { bytes = h.bytes; form = h.form }

-- a call that does not write, and one that does
pub not_writing : (b : Bool) (f : List Slot → List Slot) {s : Bytes} → b ≡ false → Stored s → Changed (when_writes b f) s s
not_writing b f e h = rw e (unchanged h)

pub writing : (b : Bool) (f : List Slot → List Slot) {s s' : Bytes} → b ≡ true → Changed f s s' → Changed (when_writes b f) s s'
writing b f e c = rw e c

-- a change is known by what it makes of the slots
pub changed_as : (f g : List Slot → List Slot) {s s' : Bytes} → f (store_of s).slots ≡ g (store_of s).slots → Changed f s s' → Changed g s s'
changed_as f g e c = record { bytes = rw (← e) c.bytes; form = rw (← e) c.form }

-- one change after the other
pub changed_then : {f g : List Slot → List Slot} {s s' s'' : Bytes} → Changed f s s' → Changed g s' s'' → Changed (λ x. g (f x)) s s''
unfolding put_slots
changed_then {f} {g} {s} {s'} {s''} c d =
    let st = put_slots (f (store_of s).slots) (store_of s) in
    record {
      bytes = d.bytes ∙ ap (λ (u : Store). store_bytes (put_slots (g u.slots) u)) (changed_store c);
      form = subst (λ (u : Store). StoreForm (put_slots (g u.slots) u)) (changed_store c) d.form;
    }

-- one slot written
module _ {s s' : Bytes} (h : Stored s) (i : ℕ) (l : i < length (store_of s).slots) where
  pub slot_changed : (f : List Slot → List Slot) (x : Slot) → SlotForm counted x → f (store_of s).slots ≡ set (store_of s).slots i x →
      s' ≡ with_slot counted i x s → Changed f s s'
  unfolding put_slots put_slot
  slot_changed f x k e w =
      let st = store_of s in
      changed_as (λ xs. set xs i x) f (sym e)
      (record {
        bytes = w ∙ ap (with_slot counted i x) h.bytes ∙ sym (slot_put_bytes st h.form i x k l);
        form = slot_put_form st h.form i x k l;
      })

  -- one record marked
  pub mark_changed : (f : List Slot → List Slot) (r : Record) (n : ℕ) → n ≤ top32 → get_or (store_of s).slots i free ≡ used r →
      f (store_of s).slots ≡ set (store_of s).slots i (used (marked n r)) → s' ≡ with_since counted i n s → Changed f s s'
  unfolding put_slots put_slot marked
  mark_changed f r n b u e w =
      let st = store_of s in
      let form = subst (SlotForm counted) u (all_at (SlotForm counted) st.slots free i h.form.each l) in
      changed_as (λ xs. set xs i (used (marked n r))) f (sym e)
      (record {
        bytes = w ∙ ap (with_since counted i n) h.bytes ∙ sym (retired_put_bytes st h.form i r n l u form b);
        form =
            slot_put_form st h.form i (used (marked n r))
            ((record { short = form.0.short; versioned = form.0.versioned; number = b; body = form.0.body; counts = form.0.counts }), tt) l;
      })
