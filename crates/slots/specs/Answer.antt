-- Document 01, 'Forms to follow': what a slot that was read says, case by case; its hashes are four numbers, its key,
-- value and counts stay in its bytes. Assumes nothing.
use Rattle.std.specs.Prelude.{◌≡◌}
use Rattle.terms.specs.Bits.{Bytes}
use Rattle.terms.specs.Fields.{slice}
use Rattle.terms.specs.Records.{Child, child, Body, leaf_body, inner_body, Record, Slot, free, used, spoiled}
use Rattle.hash.specs.Hash.{hash_bytes}
use Rattle.place.specs.Place.{place_of, Proper}
use Rattle.layout.specs.Slots.{leaf_in, counts_in, record_of, record_in, slot_of}
use Rattle.slots.specs.declared.Child as declared-child
use Rattle.slots.specs.declared.Kind as declared-kind
use Rattle.slots.specs.declared.Kind.TheVariants.{Free, Leaf, Inner, Spoiled}
use Rattle.slots.specs.declared.Slot as declared

-- A child: its version and the bytes of its hash.
unfoldable pub child_says : declared-child.Child → Child
child_says c = child c.version (hash_bytes c.hash)

-- The record with this body that a slot says that was read from the bytes x; its counts stay in them.
unfoldable pub record_says : declared.Slot → Bytes → Body → Record
record_says r x b = record_of (place_of r.place) r.version r.retired b (counts_in x)

-- What a slot says that was read from the bytes x.
unfoldable pub kind_says : declared-kind.Kind → declared.Slot → Bytes → Slot
kind_says Free r x = free
kind_says Leaf r x = used (record_says r x (leaf_in x))
kind_says (Inner a b) r x = used (record_says r x (inner_body (child_says a) (child_says b)))
kind_says Spoiled r x = spoiled x

unfoldable pub slot_says : declared.Slot → Bytes → Slot
slot_says r x = kind_says r.kind r x

-- A slot of a kind whose place is proper.
pub record Made (k : declared-kind.Kind) (r : declared.Slot) : Type 0 where
  pub kind : r.kind ≡ k
  pub proper : Proper r.place

-- A slot of a kind that says what the head of the bytes x says.
pub record Held (k : declared-kind.Kind) (x : Bytes) (r : declared.Slot) : Type 0 where
  pub made : Made k r
  pub says : (b : Body) → record_says r x b ≡ record_in x b

-- The slot that was read from the bytes x: what it says is what they are, and its place is proper.
pub record Read (x : Bytes) (r : declared.Slot) : Type 0 where
  pub says : slot_says r x ≡ slot_of x
  pub proper : Proper r.place

-- A grant as 64 bytes, key 32, value 32.
unfoldable pub grant_body : Bytes → Body
grant_body g = leaf_body (slice 0 32 g) (slice 32 32 g)
