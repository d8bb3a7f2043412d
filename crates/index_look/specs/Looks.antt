-- What a look at slots and at entries of a table says. Assumes nothing.
use Rattle.std.specs.Prelude.{ℕ, ◌-◌, ◌≤◌, ◌<◌, ◌≡◌, Bool, true, false, List, length, get_or}
use Rattle.terms.specs.declared.Form.TheVariants.{Counted as counted}
use Rattle.terms.specs.Bits.{Bytes}
use Rattle.terms.specs.Records.{Record}
use Rattle.meaning.specs.Sound.{At}
use Rattle.indexed.specs.Index.{node_before}
use Rattle.indexed.specs.Table.{entry}
use Rattle.layout.specs.Slots.{bits_in}
use Rattle.layout.specs.Stores.{slot_in, store_of}

-- A test that passes where something holds, and only there.
abbrev pub Decided : Bool → Type 0 → Type 0
Decided true a = a
Decided false a = a → ⊥

-- Whether the record of slot i stands before that of slot j, where both hold one.
abbrev pub Told : Bytes → ℕ → ℕ → Bool → Type 0
Told s i j b =
    (q r : Record) → At (store_of s) i q → At (store_of s) j r → b ≡ node_before q.version q.place r.version
    r.place

-- The same of two slots with the same bits.
abbrev pub ToldThere : Bytes → ℕ → ℕ → Bool → Type 0
ToldThere s i j b = bits_in (slot_in counted i s) ≡ bits_in (slot_in counted j s) → Told s i j b

-- Entry k names a slot that holds a record.
abbrev pub Named : Bytes → List ℕ → ℕ → Type 0
Named s table k = (r : Record) × At (store_of s) (entry (store_of s) table k) r

-- The entry before k does, where there is one.
abbrev pub Began : Bytes → List ℕ → ℕ → Type 0
Began s table k = 1 ≤ k → Named s table (k - 1)

-- And one that stands after that of the entry before.
abbrev pub Follows : Bytes → List ℕ → ℕ → Type 0
Follows s table k =
    Named s table k
    × ((q r : Record) → 1 ≤ k → At (store_of s) (entry (store_of s) table (k - 1)) q →
    At (store_of s) (entry (store_of s) table k) r →
    node_before q.version q.place r.version r.place ≡ true)

-- Each of the first m entries does.
abbrev pub Ascending : Bytes → List ℕ → ℕ → Type 0
Ascending s table m = (k : ℕ) → k < m → Follows s table k

-- The entries from m on are all as many as the table has.
abbrev pub RestEmpty : List ℕ → ℕ → Type 0
RestEmpty table m = (k : ℕ) → m ≤ k → k < length table → get_or table k 0 ≡ length table
