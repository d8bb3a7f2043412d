-- Document 01, 'Retirement', 'Placing' and 'Pruning', and finding a node in a store. Assumes nothing.
use Rattle.std.specs.Prelude.{ℕ, zero, suc, ◌≡◌, Bool, true, false, cond, ◌&&◌, ◌||◌, not, List, [], ◌∷◌, ◌++◌, map, replicate, eqb, leb}
use Rattle.std.proofs.Math.Option.{Option, none, some}
use Rattle.terms.specs.declared.Form.TheVariants.{Counted as counted}
use Rattle.terms.specs.Bits.{Bytes, Side, left, right, Place, longer, filter, same_place}
use Rattle.terms.specs.Records.{
  grant,
  Child,
  child,
  Body,
  leaf_body,
  inner_body,
  Tally,
  tally,
  no_tally,
  Record,
  record_of,
  Slot,
  free,
  used,
  spoiled,
  Store,
  store_from,
}
use Rattle.meaning.specs.Tree.{hash, VTree, vnone, vleaf, vinner, top_version, unversioned, leaves}

-- Formatted: oldest and latest are 0 and all slots free, in the counted form (2026-09).
unfoldable pub formatted : ℕ → Store
formatted n = store_from counted 0 0 (replicate n free)

-- A record is the node (version, place).
unfoldable pub is_node : ℕ → Place → Record → Bool
is_node v p r = eqb r.version v && same_place r.place p

-- The record in the lowest slot that passes a test.
abbrev pub lowest : (Record → Bool) → List Slot → Option Record
lowest test [] = none
lowest test (free ∷ s) = lowest test s
lowest test (used r ∷ s) = cond (test r) (some r) (lowest test s)
lowest test (spoiled x ∷ s) = lowest test s

-- The lowest slot that matches a version and place is the one found.
abbrev pub find : ℕ → Place → List Slot → Option Record
find v p s = lowest (is_node v p) s

-- Retired by v: retired since v or earlier.
unfoldable pub retired_by : ℕ → Record → Bool
retired_by v r = leb 1 r.retired && leb r.retired v

-- A root record whose lifetime covers v.
unfoldable pub is_root : ℕ → Record → Bool
is_root v r = same_place r.place [] && (leb r.version v && not (retired_by v r))

-- The root of a version is such a record, if any (2026-13); the lowest is the one found.
unfoldable pub root_of : Store → ℕ → Option Record
root_of st v = lowest (is_root v) st.slots

-- The child on a side.
abbrev pub child_on : Side → Child → Child → Child
child_on false l r = l
child_on true l r = r

-- The tree below a record, where `below` gives what stands at a child by its side; version 0 means no child.
abbrev pub tree_below : ℕ → Body → (Side → ℕ → VTree) → VTree
tree_below v (leaf_body k x) below = vleaf v (grant k x)
tree_below v (inner_body l r) below = vinner v (below left l.version) (below right r.version)

abbrev pub tree_found : Option Record → (Side → ℕ → VTree) → VTree
tree_found none below = vnone
tree_found (some r) below = tree_below r.version r.body below

-- The tree that stands at a version and place which is n bits short of a key; below a whole key there is none.
abbrev pub tree_from : ℕ → List Slot → ℕ → Place → VTree
tree_from zero s v p = cond (eqb v 0) vnone (tree_found (find v p s) (λ b w. vnone))
tree_from (suc n) s v p = cond (eqb v 0) vnone (tree_found (find v p s) (λ b w. tree_from n s w (longer b p)))

-- The tree of a version: from its root record, each child at its version and place.
unfoldable pub tree_at_version : Store → ℕ → VTree
tree_at_version st v = tree_found (root_of st v) (λ b w. tree_from 255 st.slots w (b ∷ []))

abbrev pub free_slots : List Slot → ℕ
free_slots [] = 0
free_slots (free ∷ s) = suc (free_slots s)
free_slots (used r ∷ s) = free_slots s
free_slots (spoiled x ∷ s) = free_slots s

-- New records go to the lowest free slots.
abbrev pub placed : List Record → List Slot → List Slot
placed rs [] = []
placed [] (free ∷ s) = free ∷ s
placed (r ∷ rs) (free ∷ s) = used r ∷ placed rs s
placed rs (used x ∷ s) = used x ∷ placed rs s
placed rs (spoiled x ∷ s) = spoiled x ∷ placed rs s

-- A record marked retired since n; nothing else in it changes.
unfoldable pub marked : ℕ → Record → Record
marked n r = record_of r.place r.version n r.body r.counts

-- What stands in a slot, changed where it is a record.
abbrev pub on_record : (Record → Slot) → Slot → Slot
on_record f free = free
on_record f (used r) = f r
on_record f (spoiled x) = spoiled x

-- A record's node is among those of a list.
abbrev pub has_node : Record → List Record → Bool
has_node r [] = false
has_node r (x ∷ xs) = is_node r.version r.place x || has_node r xs

-- A node of the old tree that isn't in the new tree is marked retired since the new version.
unfoldable pub retire_in : ℕ → List Record → List Record → Record → Slot
retire_in new old now r = used (cond (has_node r old && not (has_node r now)) (marked new r) r)

abbrev pub retire : ℕ → List Record → List Record → List Slot → List Slot
retire new old now s = map (on_record (retire_in new old now)) s

-- Pruning to n frees every record retired since n or earlier.
unfoldable pub prune_record : ℕ → Record → Slot
prune_record n r = cond (retired_by n r) free (used r)

abbrev pub pruned : ℕ → List Slot → List Slot
pruned n s = map (on_record (prune_record n)) s

-- What the record at the top of a tree says of the numbers of leaves below its children (2026-09).
abbrev pub counts_of : VTree → Tally
counts_of vnone = no_tally
counts_of (vleaf v g) = no_tally
counts_of (vinner v l r) = tally (leaves l) (leaves r)

module _ (leaf_hash inner_hash : Bytes → Bytes → Bytes) where
  -- What an inner record says of the tree at a child.
  unfoldable pub child_of : VTree → Child
  child_of t = child (top_version t) (hash leaf_hash inner_hash (unversioned t))

  -- The record of the node at a place, not retired.
  abbrev pub record_at : Place → VTree → List Record
  record_at p vnone = []
  record_at p (vleaf v g) = record_of p v 0 (leaf_body g.key g.value) no_tally ∷ []
  record_at p (vinner v l r) =
      record_of p v 0 (inner_body (child_of l) (child_of r)) (tally (leaves l) (leaves r)) ∷ []

  -- The records strictly below a node in the order of placing: first all strictly below its left child, then strictly
  -- below its right, then the left child, then the right.
  abbrev pub records_below : Place → VTree → List Record
  records_below p vnone = []
  records_below p (vleaf v g) = []
  records_below p (vinner v l r) =
      records_below (longer left p) l ++ records_below (longer right p) r ++
      record_at (longer left p) l ++ record_at (longer right p) r

  -- The root last.
  unfoldable pub records_of : VTree → List Record
  records_of t = records_below [] t ++ record_at [] t

  -- The new records of a tree.
  unfoldable pub new_records : ℕ → VTree → List Record
  new_records new t = filter (λ r. eqb r.version new) (records_of t)

  -- The store with version `new`, where `old` is the tree before and `now` the tree after.
  unfoldable pub settled : ℕ → VTree → VTree → Store → Store
  settled new old now st =
      store_from st.form st.oldest new
      (placed (new_records new now) (retire new (records_of old) (records_of now) st.slots))
