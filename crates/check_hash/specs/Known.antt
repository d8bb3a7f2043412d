-- Where stored hashes stand, and which of them are known to be right. A link is a side of a slot, numbered from 1: link
-- w is side (w - 1) % 2 of slot (w - 1) / 2. Assumes nothing.
use Rattle.std.specs.Prelude.{ℕ, ◌-◌, ◌/◌, ◌%◌, ◌≤◌, ◌≡◌, List, get_or, eqb}
use Rattle.terms.specs.declared.Form.{Form}
use Rattle.terms.specs.Bits.{Bytes, Side}
use Rattle.terms.specs.Records.{Record}
use Rattle.meaning.specs.Sound.{At}
use Rattle.meaning.specs.Reading.{body_hash}
use Rattle.hash.specs.declared.Hash.{Hash}
use Rattle.hash.specs.Hash.{hash_bytes}
use Rattle.nodehash.specs.Node.{leaf_hash, inner_hash}
use Rattle.layout.specs.Slots.{kid_on}
use Rattle.layout.specs.Stores.{slot_in, store_in, Has}

-- The slot and the side of a link.
abbrev pub link_slot : ℕ → ℕ
link_slot w = (w - 1) / 2

abbrev pub link_side : ℕ → Side
link_side w = eqb ((w - 1) % 2) 1

-- The hash that it stores.
abbrev pub stored_at : Form → Bytes → ℕ → Bytes
stored_at fm s w = (kid_on (link_side w) (slot_in fm (link_slot w) s)).hash

-- The hash of the record in slot c is these bytes.
abbrev pub HashIs : Form → Bytes → ℕ → Bytes → Type 0
HashIs fm s c h = (r : Record) → At (store_in fm s) c r → body_hash leaf_hash inner_hash r.body ≡ h

-- A link of the store stores this hash.
pub record Stored (fm : Form) (s : Bytes) (w : ℕ) (h : Hash) : Type 0 where
  pub some : 1 ≤ w
  pub has : Has fm s (link_slot w)
  pub hash : hash_bytes h ≡ stored_at fm s w

-- A link of the store stores the hash of the record in slot c.
pub record KnownAt (fm : Form) (s : Bytes) (c w : ℕ) : Type 0 where
  pub has : Has fm s (link_slot w)
  pub hash : HashIs fm s c (stored_at fm s w)

-- Each slot's entry is 0, or such a link.
abbrev pub Known : Form → Bytes → List ℕ → Type 0
Known fm s xs = (c : ℕ) → 1 ≤ get_or xs c 0 → KnownAt fm s c (get_or xs c 0)
