-- Document 01, 'Bytes': a store is its header and its slots, read as those of a form. Assumes nothing.
use Rattle.std.specs.Prelude.{ℕ, zero, suc, ◌+◌, ◌<◌, ◌≤◌, ◌≡◌, true, List, [], ◌∷◌, ◌++◌, length, get_or, take, drop, set}
use Rattle.terms.specs.declared.Form.{Form}
use Rattle.terms.specs.declared.Form.TheVariants.{Counted as counted}
use Rattle.terms.specs.Bits.{Bytes, All}
use Rattle.terms.specs.Fields.{le, field, slice}
use Rattle.terms.specs.Records.{Slot, free, Store}
use Rattle.terms.specs.Form.{top32, most_slots}
use Rattle.fields.specs.Written.{written}
use Rattle.layout.specs.Sizes.{header_size, slot_size, oldest_at, latest_at, retired_at, room_of, slot_at}
use Rattle.layout.specs.Headers.{size_right, header_bytes}
use Rattle.layout.specs.Slots.{slot_of, slot_bytes, SlotForm}

-- The bytes of slot i.
unfoldable pub slot_in : Form → ℕ → Bytes → Bytes
slot_in f i s = slice (slot_at f i) (slot_size f) s

-- The n slots that bytes hold, one after the other.
abbrev pub slots_of : Form → ℕ → Bytes → List Slot
slots_of f zero s = []
slots_of f (suc n) s = slot_of (take (slot_size f) s) ∷ slots_of f n (drop (slot_size f) s)

abbrev pub slots_bytes : Form → List Slot → Bytes
slots_bytes f [] = []
slots_bytes f (x ∷ xs) = slot_bytes f x ++ slots_bytes f xs

-- The slots that bytes of the right size hold, read as those of a form.
unfoldable pub slots_as : Form → Bytes → List Slot
slots_as f s = slots_of f (room_of f (length s)) (drop header_size s)

-- The store that they hold; its form is the one it is read as.
abbrev pub store_in : Form → Bytes → Store
store_in f s = record { form = f; oldest = field oldest_at 4 s; latest = field latest_at 4 s; slots = slots_as f s }

-- Read as one of the counted form.
abbrev pub store_of : Bytes → Store
store_of s = store_in counted s

-- What slot number i is, in a store of the right size that has it.
abbrev pub slot_no : Form → ℕ → Bytes → Slot
slot_no f i s = get_or (store_in f s).slots i free

pub record Has (f : Form) (s : Bytes) (i : ℕ) : Type 0 where
  pub size : size_right f (length s) ≡ true
  pub inside : i < room_of f (length s)

-- The header, and the bytes of slot i, lie within these bytes.
abbrev pub HeaderWithin : Bytes → Type 0
HeaderWithin s = header_size ≤ length s

abbrev pub SlotWithin : Form → ℕ → Bytes → Type 0
SlotWithin f i s = slot_at f i + slot_size f ≤ length s

-- The bytes with another slot i, another retired-since in it, another oldest, another latest; and nothing else changed.
abbrev pub with_slot : Form → ℕ → Slot → Bytes → Bytes
with_slot f i x s = written (slot_at f i) (slot_bytes f x) s

abbrev pub with_since : Form → ℕ → ℕ → Bytes → Bytes
with_since f i n s = written (slot_at f i + retired_at) (le 4 n) s

abbrev pub with_oldest : ℕ → Bytes → Bytes
with_oldest n s = written oldest_at (le 4 n) s

abbrev pub with_latest : ℕ → Bytes → Bytes
with_latest n s = written latest_at (le 4 n) s

-- The bytes of a store.
unfoldable pub store_bytes : Store → Bytes
store_bytes st =
    header_bytes st.form (length st.slots) st.oldest st.latest ++ slots_bytes st.form st.slots

-- A store that bytes can be: 1 to 16,384 slots, oldest at most latest, which has four bytes, and each slot in form.
pub record StoreForm (st : Store) : Type 0 where
  pub some : 1 ≤ length st.slots
  pub fits : length st.slots ≤ most_slots
  pub ordered : st.oldest ≤ st.latest
  pub number : st.latest ≤ top32
  pub each : All (SlotForm st.form) st.slots

-- The store with another slot at i.
unfoldable pub put_slot : ℕ → Slot → Store → Store
put_slot i x st = record { form = st.form; oldest = st.oldest; latest = st.latest; slots = set st.slots i x }

-- The store with another oldest and latest.
unfoldable pub put_bounds : ℕ → ℕ → Store → Store
put_bounds oldest latest st = record { form = st.form; oldest = oldest; latest = latest; slots = st.slots }
