-- Document 01, 'Retirement' and 'Placing', over lent memory: the bytes of a store with its slots changed, and nothing
-- else. Assumes nothing.
use Rattle.std.specs.Prelude.{ℕ, ◌<◌, ◌≡◌, Bool, true, false, List, [], ◌∷◌, length, get_or, set, Some, None}
use Rattle.std.proofs.Math.Option.{none}
use Rattle.terms.specs.Bits.{Bytes, Place}
use Rattle.terms.specs.Records.{leaf_body, inner_body, tally, no_tally, Record, Slot, free, used, spoiled, Store}
use Rattle.meaning.specs.Store.{find, is_node, placed}
use Rattle.hash.specs.Hash.{hash_bytes}
use Rattle.layout.specs.Slots.{record_of}
use Rattle.layout.specs.Stores.{store_of, store_bytes, StoreForm}
use Rattle.slots.specs.Answer.{child_says}
use Rattle.std.specs.declared.option.Option as option
use Rattle.steps.specs.Step as step
use Rattle.apply_place.specs.declared.Node as declared
use Rattle.apply_place.specs.declared.Node.TheVariants.{Nothing, Leaf, Inner}

-- The bytes are those of the store that they are read as, which is in form.
pub record Stored (s : Bytes) : Type 0 where
  pub bytes : s ≡ store_bytes (store_of s)
  pub form : StoreForm (store_of s)

-- The store with other slots.
unfoldable pub put_slots : List Slot → Store → Store
put_slots xs st = record { oldest = st.oldest; latest = st.latest; slots = xs; form = st.form }

-- The bytes s with their slots changed by f, and nothing else, are the bytes s'; they are in form again.
pub record Changed (f : List Slot → List Slot) (s s' : Bytes) : Type 0 where
  pub bytes : s' ≡ store_bytes (put_slots (f (store_of s).slots) (store_of s))
  pub form : StoreForm (put_slots (f (store_of s).slots) (store_of s))

-- A call that doesn't write leaves the slots as they are.
abbrev pub when_writes : Bool → (List Slot → List Slot) → List Slot → List Slot
when_writes true f s = f s
when_writes false f s = s

-- No slot below k is free.
abbrev pub NoneFree : List Slot → ℕ → Type 0
NoneFree s k = (j : ℕ) → j < k → get_or s j free ≡ free → ⊥

-- Slot i is the one that the next record is placed in.
pub record Lowest (s : List Slot) (i : ℕ) : Type 0 where
  pub within : i < length s
  pub none : NoneFree s i
  pub placing : (r : Record) → placed (r ∷ []) s ≡ set s i (used r)

-- What a search for a free slot found.
abbrev pub FreeIn : List Slot → option.Option ℕ → Type 0
FreeIn s (Some i) = Lowest s i
FreeIn s None = (r : Record) → placed (r ∷ []) s ≡ s

-- At most one record is the node (v, p).
abbrev pub Single : ℕ → Place → List Slot → Type 0
Single v p [] = Unit {0}
Single v p (free ∷ s) = Single v p s
Single v p (used r ∷ s) = (is_node v p r ≡ true → find v p s ≡ none) × Single v p s
Single v p (spoiled x ∷ s) = Single v p s

-- The record of the node at a place, not retired.
abbrev pub record_says : Place → declared.Node → List Record
record_says p Nothing = []
record_says p (Leaf v k x) = record_of p v 0 (leaf_body (hash_bytes k) (hash_bytes x)) no_tally ∷ []
record_says p (Inner v l r m n) = record_of p v 0 (inner_body (child_says l) (child_says r)) (tally m n) ∷ []

-- The node (version, place).
abbrev pub node_at : ℕ → Place → step.Node
node_at v p = record { version = v; place = p }
