-- What a store is written as in another form, with a table of counts. No public promise reaches this file.
-- Assumes nothing.
use Rattle.std.specs.Prelude.{ℕ, suc, ◌+◌, ◌*◌, ◌<◌, ◌≡◌, List, [], ◌∷◌, length, get_or}
use Rattle.terms.specs.declared.Form.{Form}
use Rattle.terms.specs.Bits.{Bytes, All}
use Rattle.terms.specs.Records.{Body, leaf_body, inner_body, Tally, tally, no_tally, Slot, free, used, spoiled, Store}
use Rattle.meaning.specs.Store.{on_record}
use Rattle.moved.specs.Moving.{counting}
use Rattle.layout.specs.Slots.{SlotForm}
use Rattle.layout.specs.Stores.{store_in}
use Rattle.move_rules.specs.Moves.{SameRoom}

-- The counts that a table has for slot i: two entries, left and right.
abbrev pub tally_at : List ℕ → ℕ → Tally
tally_at t i = tally (get_or t (2 * i) 0) (get_or t (2 * i + 1) 0)

-- Those of a body: a leaf has none.
abbrev pub tally_of : Tally → Body → Tally
tally_of c (leaf_body k x) = no_tally
tally_of c (inner_body l r) = c

-- What a slot holds, with these counts.
abbrev pub tallied : Tally → Slot → Slot
tallied c x = on_record (λ r. used (counting (tally_of c r.body) r)) x

-- Slots from number i on, each with the counts that the table has for it.
abbrev pub tallied_from : List ℕ → ℕ → List Slot → List Slot
tallied_from t i [] = []
tallied_from t i (x ∷ xs) = tallied (tally_at t i) x ∷ tallied_from t (suc i) xs

-- A store in a form, with the counts that the table has.
abbrev pub tallied_as : Form → List ℕ → Store → Store
tallied_as to t st = record { form = to; oldest = st.oldest; latest = st.latest; slots = tallied_from t 0 st.slots }

-- The source can be written to the target so: there is as much room, no slot is spoiled, and each is in form with
-- its counts.
pub record Movable (from to : Form) (s : Bytes) (t : List ℕ) (old : Bytes) : Type 0 where
  pub room : SameRoom from to s old
  pub whole : (i : ℕ) (x : Bytes) → i < length (store_in from s).slots →
      get_or (store_in from s).slots i free ≡ spoiled x → ⊥
  pub each : All (SlotForm to) (tallied_from t 0 (store_in from s).slots)
