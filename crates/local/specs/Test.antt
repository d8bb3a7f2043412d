-- Soundness as a test that a loop over the slots can run. Of each record it looks at its own fields, counts the slots
-- that hold its node, finds its children, and goes once over its parents: what they say of it, and whether their
-- lifetimes add up to its own. No version is tried, and each record is hashed once. No public promise reaches this
-- file: that it decides 'Sound' is a theorem. Assumes nothing.
use Rattle.std.specs.Prelude.{ℕ, ◌+◌, ◌-◌, max, Bool, true, false, cond, not, ◌&&◌, ◌||◌, List, [], ◌∷◌, length, eqb, leb, ltb}
use Rattle.std.proofs.Math.Option.{Option, none, some}
use Rattle.terms.specs.declared.Form.{Form}
use Rattle.terms.specs.declared.Form.TheVariants.{Plain as plain, Counted as counted}
use Rattle.terms.specs.Bits.{Bytes, Side, left, right, Place, longer, begins, same_bytes, same_place}
use Rattle.terms.specs.Records.{
  Child,
  Body,
  leaf_body,
  inner_body,
  Tally,
  Record,
  Slot,
  free,
  used,
  spoiled,
  Store,
  zeros,
}
use Rattle.terms.specs.Form.{top32, place_limit}
use Rattle.terms.specs.Fields.{all_of}
use Rattle.meaning.specs.Store.{find, is_node, child_on}
use Rattle.meaning.specs.Reading.{body_hash}
use Rattle.meaning.specs.Sound.{most_slots}
use Rattle.meaning.specs.Local.{ends_before, child_version, counts_by}

-- Each entry of a list passes a test.
abbrev pub every : {A : Type 0} → (A → Bool) → List A → Bool
every f [] = true
every f (x ∷ xs) = f x && every f xs

-- What the entries of a list add up to.
abbrev pub total : {A : Type 0} → (A → ℕ) → List A → ℕ
total f [] = 0
total f (x ∷ xs) = f x + total f xs

-- What a slot gives by its record; d where there is none.
abbrev pub by_record : {A : Type 0} → A → (Record → A) → Slot → A
by_record d f free = d
by_record d f (used r) = f r
by_record d f (spoiled x) = d

-- 1 where q is the node of r.
unfoldable pub is_same : Record → Record → ℕ
is_same r q = cond (is_node r.version r.place q) 1 0

-- How many slots hold the node of r.
unfoldable pub holders : Record → List Slot → ℕ
holders r s = total (by_record 0 (is_same r)) s

-- Retired-since is 0, or above the record's version, above oldest and at most latest.
unfoldable pub life_test : Store → Record → Bool
life_test st r =
    eqb r.retired 0 || all_of (ltb r.version r.retired ∷ ltb st.oldest r.retired ∷
    leb r.retired st.latest ∷ [])

abbrev pub is_found : Option Record → Bool
is_found none = false
is_found (some r) = true

-- A child at a place is missing or found.
unfoldable pub child_test : Store → Place → Child → Bool
child_test st p c = eqb c.version 0 || is_found (find c.version p st.slots)

-- A leaf's key begins with its place; an inner record's children are missing or found.
abbrev pub body_test : Store → Place → Body → Bool
body_test st p (leaf_body k x) = begins p k
body_test st p (inner_body l r) = child_test st (longer left p) l && child_test st (longer right p) r

-- q names r as its child on a side.
unfoldable pub names : Side → Record → Record → Bool
names b q r = is_node (child_version b q.body) (longer b q.place) r

-- A child with that body, beside the child d, would be a lone leaf.
abbrev pub lone_leaf : Child → Body → Bool
lone_leaf d (leaf_body k x) = eqb d.version 0
lone_leaf d (inner_body l r) = false

-- The first kept version of a record's life.
abbrev pub first_kept : Store → Record → ℕ
first_kept st r = max st.oldest r.version

-- How many kept versions a record lives at.
unfoldable pub kept_life : Store → Record → ℕ
kept_life st r = ends_before st r - first_kept st r

-- q is a parent of r.
unfoldable pub is_parent : Record → Record → Bool
is_parent r q = names left q r || names right q r

-- The kept life of q where it is a parent of r.
unfoldable pub life_above : Store → Record → Record → ℕ
life_above st r q = cond (is_parent r q) (kept_life st q) 0

-- The kept lives of two records do not meet.
unfoldable pub apart : Store → Record → Record → Bool
apart st r q = leb (ends_before st q) (first_kept st r) || leb (ends_before st r) (first_kept st q)

-- q is no other root record that lives when r does.
unfoldable pub root_apart : Store → Record → Record → Bool
root_apart st r q = not (same_place q.place []) || (eqb q.version r.version || apart st r q)

-- The lives of root records do not meet; the lifetimes of another record's parents add up to its own.
unfoldable pub life_covered : Store → Record → Bool
life_covered st r =
    cond (same_place r.place [])
    (every (by_record true (root_apart st r)) st.slots)
    (leb (kept_life st r) (total (by_record 0 (life_above st r)) st.slots))

-- The counts are these; the plain form has none.
abbrev pub counts_are : Form → Tally → Tally → Bool
counts_are plain c d = true
counts_are counted c d = eqb c.leftward d.leftward && eqb c.rightward d.rightward

-- One count is that number; the plain form has none.
abbrev pub count_is : Form → ℕ → ℕ → Bool
count_is plain m n = true
count_is counted m n = eqb m n

-- Each count is what the record found as that child says of the leaves there.
unfoldable pub counts_test : Store → Record → Bool
counts_test st r = counts_are st.form r.counts (counts_by st.slots r.place r.body)

-- A key, value or hash of 32 bytes.
unfoldable pub whole32_test : Bytes → Bool
whole32_test x = eqb (length x) 32 && every (λ b. ltb b 256) x

unfoldable pub child_form_test : Child → Bool
child_form_test c =
    all_of (leb c.version top32 ∷ whole32_test c.hash ∷ (not (eqb c.version 0) || same_bytes c.hash zeros) ∷
    [])

abbrev pub body_form_test : Body → Bool
body_form_test (leaf_body k x) = whole32_test k && whole32_test x
body_form_test (inner_body l r) =
    all_of (child_form_test l ∷ child_form_test r ∷ not (eqb l.version 0 && eqb r.version 0) ∷ [])

-- A leaf has no counts; a count has four bytes.
abbrev pub counts_form_test : Body → Tally → Bool
counts_form_test (leaf_body k x) c = eqb c.leftward 0 && eqb c.rightward 0
counts_form_test (inner_body l r) c = leb c.leftward top32 && leb c.rightward top32

-- A record is in form. Of the records in a store of bytes this is known.
unfoldable pub form_test : Record → Bool
form_test r = all_of
    (leb (length r.place) (place_limit r.body)
    ∷ leb 1 r.version
    ∷ leb r.version top32
    ∷ leb r.retired top32
    ∷ body_form_test r.body
    ∷ counts_form_test r.body r.counts
    ∷ [])

-- Size and header are right.
unfoldable pub head_test : Store → Bool
head_test st = all_of
    (leb 1 (length st.slots) ∷ leb (length st.slots) most_slots ∷ leb st.oldest st.latest ∷
    leb st.latest top32 ∷ [])

module _ (leaf_hash inner_hash : Bytes → Bytes → Bytes) where
  -- What q says of its child r, where it names it on a side: r's hash is the stored one, r lives at each kept version
  -- of q's life, and it is no lone leaf.
  abbrev pub link_on : Side → Store → Record → Record → Body → Bool
  link_on b st r q (leaf_body k x) = true
  link_on b st r q (inner_body l m) = not (names b q r) || all_of
      (same_bytes (body_hash leaf_hash inner_hash r.body) (child_on b l m).hash
      ∷ leb r.version (first_kept st q)
      ∷ leb (ends_before st q) (ends_before st r)
      ∷ not (lone_leaf (child_on (not b) l m) r.body)
      ∷ [])

  unfoldable pub link_test : Store → Record → Record → Bool
  link_test st r q = link_on left st r q q.body && link_on right st r q q.body

  -- The tests of one record.
  unfoldable pub record_test : Store → Record → Bool
  record_test st r = all_of
      (leb r.version st.latest
      ∷ life_test st r
      ∷ eqb (holders r st.slots) 1
      ∷ body_test st r.place r.body
      ∷ every (by_record true (link_test st r)) st.slots
      ∷ life_covered st r
      ∷ counts_test st r
      ∷ [])

  -- A free slot passes, a spoiled one doesn't.
  abbrev pub slot_test : Store → Slot → Bool
  slot_test st free = true
  slot_test st (used r) = record_test st r
  slot_test st (spoiled x) = false

  -- What is left to test of a store with a right size and header, whose records are in form.
  unfoldable pub slots_test : Store → Bool
  slots_test st = every (slot_test st) st.slots

  unfoldable pub local_test : Store → Bool
  local_test st = all_of (head_test st ∷ every (by_record true form_test) st.slots ∷ slots_test st ∷ [])
