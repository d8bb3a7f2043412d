-- The order of records, and a table of slots in an order. The order is by a key that a slot's bytes give; which key it
-- is, is the reader's choice, so long as records with the same node have the same key. Assumes nothing.
use Rattle.std.specs.Prelude.{ℕ, suc, ◌<◌, ◌≤◌, ◌≡◌, true, List, [], ◌∷◌, ◌++◌, length, get_or}
use Rattle.terms.specs.declared.Form.{Form}
use Rattle.terms.specs.Bits.{Bytes, Byte, All, before}
use Rattle.terms.specs.Records.{Record, used}
use Rattle.meaning.specs.Sound.{At}
use Rattle.layout.specs.Sizes.{slot_size}
use Rattle.layout.specs.Slots.{count_in, bits_in, version_in, since_in, slot_of}
use Rattle.layout.specs.Stores.{slot_in, store_in, Has}
use Rattle.check_kin.specs.Kin.{ends_at}

-- The key of the check: the bit count of the place, its bytes, the version. So the records of one level stand together,
-- and the children on one side stand in the order of their parents.
unfoldable pub node_key : Bytes → Bytes
node_key x = count_in x ∷ (bits_in x ++ (version_in x ∷ []))

-- Bytes that hold a record.
pub record Holding (fm : Form) (x : Bytes) (r : Record) : Type 0 where
  pub long : length x ≡ slot_size fm
  pub bytes : All Byte x
  pub here : slot_of x ≡ used r

-- Records with the same version and place have the same key.
abbrev pub ByNode : Form → (Bytes → Bytes) → Type 0
ByNode fm key = (x y : Bytes) (r q : Record) → Holding fm x r → Holding fm y q → r.version ≡ q.version →
    r.place ≡ q.place → key x ≡ key y

-- The key of slot i.
unfoldable pub key_no : Form → (Bytes → Bytes) → Bytes → ℕ → Bytes
key_no fm key s i = key (slot_in fm i s)

-- Of the first m entries of a table, each stands in a relation to the next.
abbrev pub Stepwise : (ℕ → ℕ → Type 0) → List ℕ → ℕ → Type 0
Stepwise P t m = (k : ℕ) → suc k < m → P (get_or t k 0) (get_or t (suc k) 0)

-- They name slots in ascending order.
abbrev pub Ascending : Form → (Bytes → Bytes) → Bytes → List ℕ → ℕ → Type 0
Ascending fm key s t m = Stepwise (λ i j. before (key_no fm key s i) (key_no fm key s j) ≡ true) t m

-- Where slot j holds a root, the life of slot i's record ends by its version.
abbrev pub PartedNo : Form → ℕ → Bytes → ℕ → ℕ → Type 0
PartedNo fm latest s i j =
    count_in (slot_in fm j s) ≡ 0 → ends_at latest (since_in (slot_in fm i s)) ≤ version_in (slot_in fm j s)

-- Slot j of the store may stand after slot i: its key is greater, and two roots are parted.
pub record Follows (fm : Form) (latest : ℕ) (s : Bytes) (i j : ℕ) : Type 0 where
  pub inside : Has fm s j
  pub up : before (key_no fm node_key s i) (key_no fm node_key s j) ≡ true
  pub parted : PartedNo fm latest s i j

abbrev pub InOrder : Form → ℕ → Bytes → List ℕ → ℕ → Type 0
InOrder fm latest s t m = Stepwise (Follows fm latest s) t m

-- Slot i is named by one of them.
abbrev pub Named : List ℕ → ℕ → ℕ → Type 0
Named t m i = (k : ℕ) × (k < m) × (get_or t k 0 ≡ i)

-- The same of a slot that holds a record.
abbrev pub NamedAt : Form → Bytes → List ℕ → ℕ → ℕ → Type 0
NamedAt fm s t m i = (r : Record) → At (store_in fm s) i r → 1 ≤ r.version → Named t m i
