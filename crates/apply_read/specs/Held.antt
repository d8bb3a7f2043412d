-- Document 01, 'Bytes': what a slot that is used holds, in the values of the code. Assumes nothing.
use Rattle.std.specs.Prelude.{ℕ, ◌<◌, ◌≡◌, length, get_or, Some, None}
use Rattle.terms.specs.Bits.{Bytes}
use Rattle.terms.specs.Records.{Child, leaf_body, inner_body, tally, Record, Slot, free, used, spoiled}
use Rattle.hash.specs.Hash.{hash_bytes}
use Rattle.layout.specs.Stores.{store_of}
use Rattle.slots.specs.Answer.{child_says}
use Rattle.std.specs.declared.option.Option as option
use Rattle.apply_place.specs.declared.Node as node
use Rattle.apply_place.specs.declared.Node.TheVariants as N
use Rattle.apply_place.specs.Placing.{Stored}
use Rattle.apply_read.specs.declared.Onward as declared
use Rattle.apply_read.specs.declared.Onward.TheVariants.{End, Inner}

-- Slot i holds a record.
pub record Used (s : Bytes) (i : ℕ) : Type 0 where
  pub stored : Stored s
  pub within : i < length (store_of s).slots
  pub held : Record
  pub slot : get_or (store_of s).slots i free ≡ used held

-- The version of the record in slot i.
abbrev pub version_of : Slot → ℕ
version_of free = 0
version_of (used r) = r.version
version_of (spoiled x) = 0

abbrev pub version_in : Bytes → ℕ → ℕ
version_in s i = version_of (get_or (store_of s).slots i free)

-- A record's node.
abbrev pub HoldsNode : node.Node → Record → Type 0
HoldsNode N.Nothing r = ⊥
HoldsNode (N.Leaf v k x) r = (v ≡ r.version) × (r.body ≡ leaf_body (hash_bytes k) (hash_bytes x))
HoldsNode (N.Inner v a b m n) r =
    (v ≡ r.version) × (r.body ≡ inner_body (child_says a) (child_says b)) × (r.counts ≡ tally m n)

-- The node that slot i holds.
abbrev pub NodeHeld : Bytes → ℕ → node.Node → Type 0
NodeHeld s i n = (r : Record) → get_or (store_of s).slots i free ≡ used r → HoldsNode n r

-- A slot that was found holds a record.
abbrev pub UsedAt : Bytes → option.Option ℕ → Type 0
UsedAt s (Some i) = Used s i
UsedAt s None = Unit {0}

-- From no slot and from a leaf the steps go no further; from an inner record they go to children of these versions.
abbrev pub GoesOn : Bytes → option.Option ℕ → declared.Onward → Type 0
GoesOn s None o = o ≡ End
GoesOn s (Some i) End =
    (r : Record) → get_or (store_of s).slots i free ≡ used r → (k : Bytes) × (x : Bytes) × (r.body ≡ leaf_body k x)
GoesOn s (Some i) (Inner slot l r) =
    (slot ≡ i) × ((q : Record) → get_or (store_of s).slots i free ≡ used q →
    (a : Child) × (b : Child) × (q.body ≡ inner_body a b) × (l ≡ a.version) × (r ≡ b.version))
