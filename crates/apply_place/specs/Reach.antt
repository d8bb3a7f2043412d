-- Document 01, 'Placing': how far new records reach. Counting goes on as if every slot were free, so a count is a reach
-- too. Assumes nothing.
use Rattle.std.specs.Prelude.{ℕ, ◌+◌, ◌≤◌, min, ◌≡◌, Bool, true, false, List, length}
use Rattle.terms.specs.Bits.{Bytes, All}
use Rattle.terms.specs.Records.{Record, Slot}
use Rattle.terms.specs.Form.{RecordForm}
use Rattle.meaning.specs.Store.{placed}
use Rattle.place.specs.declared.Place as place
use Rattle.place.specs.Place.{Proper}
use Rattle.layout.specs.Stores.{store_of}
use Rattle.apply_place.specs.declared.Node as declared
use Rattle.apply_place.specs.declared.Node.TheVariants.{Nothing, Leaf, Inner}
use Rattle.apply_place.specs.Placing.{Stored, Changed, when_writes, NoneFree, Lowest}

-- One more than the most slots of a store.
abbrev pub over_most : ℕ
over_most = 16385

-- A count, where those above the most slots of a store are not told apart.
abbrev pub capped : ℕ → ℕ
capped n = min n over_most

-- A node has one record, if there is a node.
abbrev pub node_size : declared.Node → ℕ
node_size Nothing = 0
node_size (Leaf v k x) = 1
node_size (Inner v l r m n) = 1

-- Where records are written, no slot below k is free.
abbrev pub Clear : Bool → List Slot → ℕ → Type 0
Clear true s k = NoneFree s k
Clear false s k = Unit {0}

-- A reach that new records may go on from.
pub record Starts (writes : Bool) (s : List Slot) (k : ℕ) : Type 0 where
  pub few : k ≤ over_most
  pub clear : Clear writes s k

-- The reach k of n new records from another on: counted, they are n more.
abbrev pub Counts : Bool → ℕ → ℕ → ℕ → Type 0
Counts true from n k = Unit {0}
Counts false from n k = k ≡ capped (from + n)

pub record Reaches (writes : Bool) (from n : ℕ) (s : List Slot) (k : ℕ) : Type 0 where
  pub starts : Starts writes s k
  pub counts : Counts writes from n k

-- Records of a place that may be written over slot i.
pub record Puts (s : Bytes) (i : ℕ) (p : place.Place) (rs : List Record) : Type 0 where
  pub stored : Stored s
  pub proper : Proper p
  pub lowest : Lowest (store_of s).slots i
  pub form : All RecordForm rs

-- Records of a place that may be placed or counted.
pub record Places (writes : Bool) (s : Bytes) (from : ℕ) (p : place.Place) (rs : List Record) : Type 0 where
  pub stored : Stored s
  pub starts : Starts writes (store_of s).slots from
  pub proper : Proper p
  pub form : writes ≡ true → All RecordForm rs

-- Records that were placed, or only counted.
pub record Placed (writes : Bool) (from : ℕ) (rs : List Record) (s s' : Bytes) (k : ℕ) : Type 0 where
  pub bytes : Changed (when_writes writes (placed rs)) s s'
  pub reach : Reaches writes from (length rs) (store_of s').slots k
