-- Document 01, 'Reading and proving', 'a slot matches a version and place'. Assumes nothing.
use Rattle.std.specs.Prelude.{ℕ, ◌<◌, ◌≡◌, Bool, true, false, length, get_or}
use Rattle.terms.specs.Bits.{Bytes, Place}
use Rattle.terms.specs.Records.{Record, free, used}
use Rattle.meaning.specs.Store.{is_node}
use Rattle.layout.specs.Stores.{store_of}

-- Where the answer is yes, slot i holds the node (v, p).
abbrev pub NodeAt : Bytes → ℕ → ℕ → Place → Bool → Type 0
NodeAt s i v p true =
    (i < length (store_of s).slots)
    × ((r : Record) × (get_or (store_of s).slots i free ≡ used r) × (is_node v p r ≡ true))
NodeAt s i v p false = Unit {0}
