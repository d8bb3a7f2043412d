-- Document 02, 2026-10: a store of the plain form moved into the counted one, and back; slots kept. Assumes nothing.
use Rattle.std.specs.Prelude.{◌-◌, List, map, length}
use Rattle.terms.specs.declared.Form.{Form}
use Rattle.terms.specs.declared.Form.TheVariants.{Plain as plain, Counted as counted}
use Rattle.terms.specs.Records.{Tally, no_tally, Record, Slot, used, Store}
use Rattle.meaning.specs.Store.{tree_from, on_record, counts_of}

-- A record with these counts; nothing else in it changes.
unfoldable pub counting : Tally → Record → Record
counting c r = record { place = r.place; version = r.version; retired = r.retired; body = r.body; counts = c }

-- Each record counted anew, in its slot.
abbrev pub recounted : (Record → Tally) → List Slot → List Slot
recounted g s = map (on_record (λ r. used (counting (g r) r))) s

-- The counts of a record by the tree that stands at it: the numbers of leaves below its children.
unfoldable pub counts_in : List Slot → Record → Tally
counts_in s r = counts_of (tree_from (256 - length r.place) s r.version r.place)

abbrev pub recounted_in : Form → (Record → Tally) → Store → Store
recounted_in f g st = record { form = f; oldest = st.oldest; latest = st.latest; slots = recounted g st.slots }

-- Over: into the counted form. Back: into the plain form, which has none.
unfoldable pub over : Store → Store
over st = recounted_in counted (counts_in st.slots) st

unfoldable pub back : Store → Store
back st = recounted_in plain (λ r. no_tally) st
