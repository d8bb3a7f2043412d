-- A table that names the slots in form of a store, each once, in the order of their nodes; for every store, sound or
-- not. Assumes nothing.
use Rattle.std.specs.Prelude.{ℕ, suc, ◌-◌, ◌*◌, ◌<◌, ◌≤◌, ◌≡◌, ◌⊎◌, true, false, List, [], ◌∷◌, ◌++◌, length, get_or}
use Rattle.std.proofs.Math.Option.{some}
use Rattle.terms.specs.Bits.{Bytes, Place, pack, before}
use Rattle.terms.specs.Records.{Record, Slot, free, used, spoiled}
use Rattle.terms.specs.Form.{most_slots}
use Rattle.meaning.specs.Store.{find}

-- The key of a node: the bit count of its place, the bytes of its place, its version.
unfoldable pub node_key : ℕ → Place → Bytes
node_key v p = length p ∷ (pack 32 p ++ (v ∷ []))

-- The key of a slot in form; another has none.
abbrev pub slot_key : Slot → Bytes
slot_key free = []
slot_key (used r) = node_key r.version r.place
slot_key (spoiled x) = []

-- The key of slot i.
unfoldable pub key_no : List Slot → ℕ → Bytes
key_no s i = slot_key (get_or s i free)

-- Slot i holds a record in form.
abbrev pub InForm : List Slot → ℕ → Type 0
InForm s i = (r : Record) × (get_or s i free ≡ used r)

-- Slot i stands before slot j: by its node, and of the same node by its number.
abbrev pub Ahead : List Slot → ℕ → ℕ → Type 0
Ahead s i j = (before (key_no s i) (key_no s j) ≡ true) ⊎ ((key_no s i ≡ key_no s j) × (i < j))

-- One of the first n entries of a table names slot i.
abbrev pub Named : List ℕ → ℕ → ℕ → Type 0
Named t n i = (k : ℕ) × (k < n) × (get_or t k 0 ≡ i)

-- The first n entries name the slots in form and no other, in their order.
pub record Ordered (s : List Slot) (t : List ℕ) (n : ℕ) : Type 0 where
  -- each names a slot in form
  pub names : (k : ℕ) → k < n → InForm s (get_or t k 0)
  -- each stands before the next
  pub ascends : (k : ℕ) → suc k < n → Ahead s (get_or t k 0) (get_or t (suc k) 0)
  -- each slot in form is named
  pub named : (i : ℕ) → InForm s i → Named t n i

-- A table to find by: its first n entries name the slots in form in their order; without entries every slot is looked
-- at.
pub record Guide (s : List Slot) (t : List ℕ) (n : ℕ) : Type 0 where
  pub short : n ≤ most_slots
  pub sure : 1 ≤ n → Ordered s t n

-- Between lo and hi the search goes on: the entries before lo are before a key, those from hi on are not.
pub record Between (s : List Slot) (t : List ℕ) (n : ℕ) (key : Bytes) (lo hi : ℕ) : Type 0 where
  pub within : hi ≤ n
  pub straight : lo ≤ hi
  pub below : (k : ℕ) → k < lo → before (key_no s (get_or t k 0)) key ≡ true
  pub above : (k : ℕ) → hi ≤ k → k < n → before (key_no s (get_or t k 0)) key ≡ false

-- Where slot i holds a record, a scan for its node finds that record: no lower slot has the node.
abbrev pub Leads : List Slot → ℕ → Type 0
Leads s i = (r : Record) → get_or s i free ≡ used r → find r.version r.place s ≡ some r

-- An entry of a table of slots, each one higher, names a slot that leads, or, where it is 0, none.
abbrev pub LeadsIf : List Slot → ℕ → Type 0
LeadsIf s e = 1 ≤ e → Leads s (e - 1)

-- So does each entry of a table of the slots' children, two for each slot of the largest store.
abbrev pub Leading : List Slot → List ℕ → Type 0
Leading s t = (m : ℕ) → m < 2 * most_slots → LeadsIf s (get_or t m 0)
