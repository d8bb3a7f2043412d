-- Document 01, 'Bytes', slot, and 2026-09's counted form: what a slot's bytes say, and the bytes that say it. How many
-- tells the form; retired-since, children's versions and a leaf's key are matters of soundness. Assumes nothing.
use Rattle.std.specs.Prelude.{ℕ, ◌+◌, ◌-◌, ◌≤◌, ◌≡◌, Bool, true, false, cond, ◌||◌, List, [], ◌∷◌, ◌++◌, length, take, drop, eqb, leb}
use Rattle.terms.specs.declared.Form.{Form}
use Rattle.terms.specs.declared.Form.TheVariants.{Plain as plain, Counted as counted}
use Rattle.terms.specs.Bits.{Bytes, Byte, Side, Place, All, bits, pack, none_set}
use Rattle.terms.specs.Fields.{le, field, slice, zero_bytes, all_zero, flat, all_of}
use Rattle.terms.specs.Records.{
  Child,
  child,
  Body,
  leaf_body,
  inner_body,
  Tally,
  tally,
  Record,
  Slot,
  free,
  used,
  spoiled,
}
use Rattle.terms.specs.Form.{place_limit, RecordForm, FormedAs}
unfoldable pub use Rattle.terms.specs.Heads.{count_in}
pub use Rattle.terms.specs.Heads.{bits_in, version_in, since_in}
pub use Rattle.terms.specs.Records.{record_of}
use Rattle.layout.specs.Sizes.{slot_size, kind_at, grant_size, key_at_lem, value_at, left_at, right_at}

-- In a slot of n bytes a leaf says length 112 and kind 2, an inner record length n and kind 3, in the counted form 5.
abbrev pub length_of : ℕ → Body → ℕ
length_of n (leaf_body k x) = 112
length_of n (inner_body l r) = n

abbrev pub kind_of : ℕ → Body → ℕ
kind_of n (leaf_body k x) = 2
kind_of n (inner_body l r) = cond (eqb n 120) 3 5

-- The place: as many bits as the bit count says.
unfoldable pub place_in : Bytes → Place
place_in x = take (count_in x) (bits (bits_in x))

-- A leaf's key 32, value 32.
unfoldable pub leaf_in : Bytes → Body
leaf_in x = leaf_body (slice 48 32 x) (slice 80 32 x)

-- A child's version 4, hash 32; left, then right.
unfoldable pub child_in : ℕ → Bytes → Child
child_in i x = child (field i 4 x) (slice (i + 4) 32 x)

unfoldable pub inner_in : Bytes → Body
inner_in x = inner_body (child_in 48 x) (child_in 84 x)

-- The counts; past a slot's end, in the plain form, they read as 0.
unfoldable pub counts_in : Bytes → Tally
counts_in x = tally (field 120 4 x) (field 124 4 x)

-- The record with this body that the bytes hold.
unfoldable pub record_in : Bytes → Body → Record
record_in x b = record_of (place_in x) (version_in x) (since_in x) b (counts_in x)

-- Length and kind; bit count (0 to 256, inner 0 to 255), unused bits zero; version at least 1.
unfoldable pub head_right : Body → Bytes → Bool
head_right b x =
    all_of
    (eqb (field 0 4 x) (length_of (length x) b) ∷ eqb (field kind_at 2 x) (kind_of (length x) b)
    ∷ leb (count_in x) (place_limit b) ∷ none_set (drop (count_in x) (bits (bits_in x))) ∷ leb 1 (version_in x) ∷ [])

-- A leaf ends with zero bytes: 8, or 16 in the counted form.
unfoldable pub is_leaf : Bytes → Bool
is_leaf x = all_of (head_right (leaf_in x) x ∷ all_zero (slice 112 (length x - 112) x) ∷ [])

-- A child's version 0 means no child, and its hash is then zero.
unfoldable pub child_right : Child → Bool
child_right c = leb 1 c.version || all_zero c.hash

-- At least one child is present.
unfoldable pub some_child : Child → Child → Bool
some_child l r = leb 1 l.version || leb 1 r.version

unfoldable pub is_inner : Bytes → Bool
is_inner x =
    let l = child_in 48 x in
    let r = child_in 84 x in
    all_of (head_right (inner_in x) x ∷ child_right l ∷ child_right r ∷ some_child l r ∷ [])

-- Free: all zero. A leaf, or an inner record, in form. Else the bytes are all that can be said.
unfoldable pub slot_of : Bytes → Slot
slot_of x =
    cond (all_zero x) free
    (cond (is_leaf x) (used (record_in x (leaf_in x)))
    (cond (is_inner x) (used (record_in x (inner_in x))) (spoiled x)))

-- After the head: key, value, 8 zero; or left version, left hash, right version, right hash.
abbrev pub body_fields : Body → List Bytes
body_fields (leaf_body k x) = k ∷ x ∷ zero_bytes 8 ∷ []
body_fields (inner_body l r) = le 4 l.version ∷ l.hash ∷ le 4 r.version ∷ r.hash ∷ []

-- Then, in the counted form, the counts; a leaf has none, so they are 8 zero bytes more.
abbrev pub count_fields : Form → Tally → List Bytes
count_fields plain c = []
count_fields counted c = le 4 c.leftward ∷ le 4 c.rightward ∷ []

-- The bytes of a record: length, kind, bit count, bits, version, retired-since, then these.
unfoldable pub record_bytes : Form → Record → Bytes
record_bytes f r =
    flat
    (le 4 (length_of (slot_size f) r.body) ∷ le 2 (kind_of (slot_size f) r.body) ∷ le 2 (length r.place)
    ∷ pack 32 r.place ∷ le 4 r.version ∷ le 4 r.retired ∷ body_fields r.body ++ count_fields f r.counts)

-- The bytes of a slot.
unfoldable pub slot_bytes : Form → Slot → Bytes
slot_bytes f free = zero_bytes (slot_size f)
slot_bytes f (used r) = record_bytes f r
slot_bytes f (spoiled x) = x

-- A slot that the bytes of a form can be: a record is in form, and spoiled bytes are no record.
abbrev pub SlotForm : Form → Slot → Type 0
SlotForm f free = Unit {0}
SlotForm f (used r) = RecordForm r × FormedAs f r
SlotForm f (spoiled x) = (length x ≡ slot_size f) × All Byte x × (slot_of x ≡ spoiled x)

-- What code and proofs name besides. As many bytes as a slot of either form has: all that reading them asks for.
abbrev pub SlotLong : Bytes → Type 0
SlotLong x = (slot_size plain ≤ length x) × (length x ≤ slot_size counted)

-- A leaf's key and value, and both.
abbrev pub key_in : Bytes → Bytes
key_in x = slice key_at_lem 32 x

abbrev pub value_inside : Bytes → Bytes
value_inside x = slice value_at 32 x

abbrev pub grant_in : Bytes → Bytes
grant_in x = slice key_at_lem grant_size x

-- An inner record's left and right child, and the one on a side.
abbrev pub left_in : Bytes → Child
left_in x = child_in left_at x

abbrev pub right_in : Bytes → Child
right_in x = child_in right_at x

abbrev pub kid_on : Side → Bytes → Child
kid_on false x = left_in x
kid_on true x = right_in x

-- The tests of a slot's head, and of an inner record, as lists.
abbrev pub head_tests : ℕ → ℕ → ℕ → Bytes → List Bool
head_tests n kind limit x =
    eqb (field 0 4 x) n ∷ eqb (field kind_at 2 x) kind ∷ leb (count_in x) limit
    ∷ none_set (drop (count_in x) (bits (bits_in x))) ∷ leb 1 (version_in x) ∷ []

abbrev pub inner_tests : Bytes → List Bool
inner_tests x =
    head_right (inner_in x) x ∷ child_right (left_in x) ∷ child_right (right_in x)
    ∷ some_child (left_in x) (right_in x) ∷ []

-- Length, kind, bit count, bits, version, retired-since; a child's version and hash.
abbrev pub head_fields : ℕ → ℕ → Place → ℕ → ℕ → List Bytes
head_fields n kind p version since = le 4 n ∷ le 2 kind ∷ le 2 (length p) ∷ pack 32 p ∷ le 4 version ∷ le 4 since ∷ []

abbrev pub child_fields : Child → List Bytes
child_fields c = le 4 c.version ∷ c.hash ∷ []

abbrev pub record_fields : Form → Record → List Bytes
record_fields f r =
    head_fields (length_of (slot_size f) r.body) (kind_of (slot_size f) r.body) r.place r.version r.retired
    ++ (body_fields r.body ++ count_fields f r.counts)
