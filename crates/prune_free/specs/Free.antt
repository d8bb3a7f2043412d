-- Document 01, 'Pruning': what freeing the retired records of a store leaves and answers, before oldest is set. No
-- public promise reaches this file. Assumes nothing.
use Rattle.std.specs.Prelude.{ℕ, ◌-◌, ◌<◌, ◌≡◌, Bool, cond, ◌&&◌, length, get_or, leb}
use Rattle.terms.specs.declared.Form.TheVariants.{Counted as counted}
use Rattle.terms.specs.Bits.{Bytes}
use Rattle.terms.specs.Records.{free, spoiled, Store}
use Rattle.meaning.specs.Store.{free_slots, pruned}
use Rattle.layout.specs.Slots.{since_in}
use Rattle.layout.specs.Stores.{slot_in, store_of, store_bytes, with_slot, StoreForm}

-- The retired-since field of a slot's bytes says n or earlier; 0 means not retired.
unfoldable pub retired_in : ℕ → Bytes → Bool
retired_in n x = leb 1 (since_in x) && leb (since_in x) n

-- Slot i is freed if it says so: the bytes afterwards, and how many were freed.
unfoldable pub freed_slot : ℕ → ℕ → Bytes → Bytes
freed_slot n i s = cond (retired_in n (slot_in counted i s)) (with_slot counted i free s) s

unfoldable pub freed_count : ℕ → ℕ → Bytes → ℕ
freed_count n i s = cond (retired_in n (slot_in counted i s)) 1 0

-- Bytes that are those of the store they are read as, no slot of which is spoiled.
pub record Readable (s : Bytes) : Type 0 where
  pub form : StoreForm (store_of s)
  pub back : store_bytes (store_of s) ≡ s
  pub whole : (i : ℕ) (x : Bytes) → i < length (store_of s).slots → get_or (store_of s).slots i free ≡ spoiled x → ⊥

-- The store with its retired records freed.
unfoldable pub emptied : ℕ → Store → Store
emptied n st = record { form = st.form; oldest = st.oldest; latest = st.latest; slots = pruned n st.slots }

-- From the bytes s to the bytes t every record retired since n or earlier was freed, and this many were.
pub record Frees (n : ℕ) (s : Bytes) (freed : ℕ) (t : Bytes) : Type 0 where
  pub bytes : t ≡ store_bytes (emptied n (store_of s))
  pub count : freed ≡ free_slots (pruned n (store_of s).slots) - free_slots (store_of s).slots
