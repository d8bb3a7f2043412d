-- Document 02, request 2026-01, worked out by hand and computed: how many places are visited in two small trees, for which
-- four bits are enough, and in the desk's store with gaps. Assumes nothing.
use Prim.Native.Nat.{ℕ}
use mathlib.Core.Path.{◌≡◌, refl}
use mathlib.Core.List.{[], ◌∷◌, ◌++◌}
use lib.ListN.{length}
use Rattle.terms.specs.Bits.{Bytes, longer}
use Rattle.terms.specs.Fields.{le, zero_bytes}
use Rattle.terms.specs.Records.{Grant, grant}
use Rattle.meaning.specs.Tree.{VTree, vnone, vleaf, vinner}
use Rattle.meaning.specs.Store.{tree_at_version}
use Rattle.meaning.specs.Computed.{computed}
use Rattle.meaning.specs.Desk.{B, C, C'}
use Rattle.meaning.specs.DeskGaps.{g₉}
use Rattle.changed.specs.Changes.{removed, another, deletes, item_as, item_bytes}
use Rattle.changed.specs.Visits.{no_deeper, visited}
use Rattle.changed.specs.Compare.{changes_of}

abbrev one : Grant
one = grant [] (1 ∷ [])

abbrev other : Grant
other = grant [] (2 ∷ [])

-- How many places are visited.
abbrev count : VTree → VTree → ℕ
count t u = length (visited 4 [] t u)

-- Two leaves of version 1 below a root of version v.
abbrev rooted : ℕ → VTree
rooted v = vinner v (vleaf 1 one) (vleaf 1 other)

-- The same record: one visit.
same_root : count (rooted 1) (rooted 1) ≡ 1
unfolding no_deeper longer
same_root = refl

-- An empty batch between them: another root record over the same children, so the same hash; three visits.
another_root : count (rooted 1) (rooted 2) ≡ 3
unfolding no_deeper longer
another_root = refl

-- A leaf, then an inner node: both longer places are visited, also where a child is missing.
leaf_and_inner : count (vleaf 1 one) (vinner 2 vnone (rooted 2)) ≡ 5
unfolding no_deeper longer
leaf_and_inner = refl

-- No node, then a leaf: one visit.
no_inner : count vnone (vleaf 1 one) ≡ 1
unfolding no_deeper longer
no_inner = refl

-- The desk's store with gaps (2026-13): 5 and 7 share a root, so one visit and no change; from 7 to 9 the empty place, 0, 00, 01, 010, 011
-- and 1 are visited.
between_two_publishings : (leaf_hash inner_hash : Bytes → Bytes → Bytes) →
    (count (tree_at_version (g₉ leaf_hash inner_hash) 5) (tree_at_version (g₉ leaf_hash inner_hash) 7) ≡ 1)
    × (changes_of (g₉ leaf_hash inner_hash) 5 7 ≡ [])
unfolding computed no_deeper changes_of
between_two_publishings leaf_hash inner_hash = (refl, refl)

across_a_publishing : (leaf_hash inner_hash : Bytes → Bytes → Bytes) →
    (count (tree_at_version (g₉ leaf_hash inner_hash) 7) (tree_at_version (g₉ leaf_hash inner_hash) 9) ≡ 7)
    × (changes_of (g₉ leaf_hash inner_hash) 7 9 ≡ removed B ∷ another C.key C.value C'.value ∷ [])
unfolding computed no_deeper changes_of
across_a_publishing leaf_hash inner_hash = (refl, refl)

-- A delete has length 72, kind 2, the key and the old value.
delete_bytes : (k x : Bytes) → item_bytes (deletes (grant k x)) ≡ 72 ∷ 0 ∷ 0 ∷ 0 ∷ 2 ∷ 0 ∷ 0 ∷ 0 ∷ (k ++ (x ++ []))
unfolding item_as le zero_bytes
delete_bytes k x = refl
