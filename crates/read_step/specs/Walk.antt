-- Document 01, 'Reading and proving', with 2026-07, over the bytes of a store: what a read by a table of slot
-- numbers (2026-05) sees at the root and at a child. Assumes nothing.
use Rattle.std.specs.Prelude.{ℕ, ◌-◌, ◌<◌, ◌≡◌, true, false, cond, List, length}
use Rattle.terms.specs.declared.Form.TheVariants.{Counted as counted}
use Rattle.terms.specs.Bits.{Bytes, Side, Place, longer}
use Rattle.terms.specs.Records.{Child, Body}
use Rattle.meaning.specs.Store.{child_on}
use Rattle.meaning.specs.Reading.{
  Trouble,
  lost_record,
  spoilt_record,
  stray_leaf,
  Seen,
  stopped_by,
  gap,
  leaf_seen,
  fork,
  seen_body,
  seen_at,
}
use Rattle.indexed.specs.Index.{by_table}
use Rattle.layout.specs.Sizes.{room_of}
use Rattle.layout.specs.Headers.{size_right}
use Rattle.layout.specs.Slots.{key_in, value_inside, left_in, right_in, is_leaf, leaf_in, inner_in}
use Rattle.layout.specs.Stores.{slot_in, store_of}
use Rattle.place.specs.declared.Place as declared-place
use Rattle.place.specs.Place.{Proper}
use Rattle.read_step.specs.declared.Trouble as declared-trouble
use Rattle.read_step.specs.declared.Trouble.TheVariants as trouble
use Rattle.read_step.specs.declared.Seen as declared
use Rattle.read_step.specs.declared.Seen.TheVariants.{Gap, Stopped, Leaf, Inner}

-- What a slot's bytes hold that are a record in form.
unfoldable pub body_in : Bytes → Body
body_in x = cond (is_leaf x) (leaf_in x) (inner_in x)

-- What the inner record in slot i says of its child on a side.
unfoldable pub kid_in : ℕ → Bytes → Side → Child
kid_in i s b = child_on b (left_in (slot_in counted i s)) (right_in (slot_in counted i s))

-- What is seen by a table at a child that stands at a place.
unfoldable pub seen_below : Bytes → List ℕ → Place → Child → Seen
seen_below s table p c = seen_at (256 - length p) (by_table table (store_of s)) p c

-- What is seen at a place whose record holds a body.
abbrev pub body_seen : Bytes → List ℕ → Place → Body → Seen
body_seen s table p b = seen_body p b (λ c d. seen_at (255 - length p) (by_table table (store_of s)) (longer c p) d)

-- The leaf in slot i; the inner node in slot i, which stands at a place.
unfoldable pub leaf_at : ℕ → Bytes → Seen
leaf_at i s = leaf_seen (key_in (slot_in counted i s)) (value_inside (slot_in counted i s))

unfoldable pub fork_at : ℕ → Bytes → List ℕ → Place → Seen
fork_at i s table p =
    fork (λ b. (kid_in i s b).hash)
    (λ b. seen_at (255 - length p) (by_table table (store_of s)) (longer b p) (kid_in i s b))

-- What each case of trouble says.
abbrev pub trouble_says : declared-trouble.Trouble → Trouble
trouble_says trouble.Lost = lost_record
trouble_says (trouble.Spoilt i) = spoilt_record i
trouble_says trouble.Stray = stray_leaf

-- What each case of an answer says is seen at a place: a gap, trouble, a leaf or an inner node in a slot of the store.
-- An inner node's place is shorter than a key.
abbrev pub Sees : Bytes → List ℕ → Place → Seen → declared.Seen → Type 0
Sees s table p x Gap = x ≡ gap
Sees s table p x (Stopped t) = x ≡ stopped_by (trouble_says t)
Sees s table p x (Leaf i) = (i < room_of counted (length s)) × (x ≡ leaf_at i s)
Sees s table p x (Inner i) = (i < room_of counted (length s)) × (length p < 256) × (x ≡ fork_at i s table p)

-- The answer for slot i, at a place, says what is seen there by any table.
abbrev pub SeesIn : Bytes → ℕ → Place → declared.Seen → Type 0
SeesIn s i p r = (table : List ℕ) → Sees s table p (body_seen s table p (body_in (slot_in counted i s))) r

-- A slot of a store of the right size, and a place.
pub record Slotted (s : Bytes) (i : ℕ) (p : declared-place.Place) : Type 0 where
  pub size : size_right counted (length s) ≡ true
  pub inside : i < room_of counted (length s)
  pub proper : Proper p

-- Slot i holds a leaf, or an inner node whose place is shorter than a key.
pub record SlotHolds (s : Bytes) (i : ℕ) (p : declared-place.Place) : Type 0 where
  pub slotted : Slotted s i p
  pub short : is_leaf (slot_in counted i s) ≡ false → p.count < 256
