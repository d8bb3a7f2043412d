-- Document 01, 'The tree of a set of grants' and 'Node versions'. Assumes nothing.
use Rattle.std.specs.Prelude.{ℕ, zero, suc, ◌+◌, Bool, true, false, cond, ◌&&◌, List, [], ◌∷◌, ◌++◌}
use Rattle.terms.specs.Bits.{Bytes, Side, left, right, Place, longer, filter, begins, before, same_bytes}
use Rattle.terms.specs.Records.{Grant, grant, Ask, insert, delete, zeros}

-- A set of grants is the list of them in the order of their keys.
unfoldable pub smaller : Bytes → List Grant → List Grant
smaller k gs = filter (λ g. before g.key k) gs

unfoldable pub greater : Bytes → List Grant → List Grant
greater k gs = filter (λ g. before k g.key) gs

-- The grants with one ask applied: the key has the new value, or none.
abbrev pub with_ask : Ask → List Grant → List Grant
with_ask (insert k x) gs = smaller k gs ++ grant k x ∷ greater k gs
with_ask (delete k) gs = smaller k gs ++ greater k gs

-- The grants with a batch applied.
abbrev pub with_batch : List Ask → List Grant → List Grant
with_batch [] gs = gs
with_batch (a ∷ batch) gs = with_batch batch (with_ask a gs)

pub data Tree : Type 0 where
  none : Tree
  leaf : Grant → Tree
  inner : Tree → Tree → Tree

-- No grant, no node; one, a leaf; two or more, an inner node with what stands at its children by their side.
abbrev pub by_count : List Grant → (Side → Tree) → Tree
by_count [] child = none
by_count (g ∷ []) child = leaf g
by_count (g ∷ h ∷ gs) child = inner (child left) (child right)

-- The grants that begin with a place.
unfoldable pub grants_at : Place → List Grant → List Grant
grants_at p gs = filter (λ g. begins p g.key) gs

-- The tree at a place that is n bits short of a key; where n is 0, no two keys begin with the place.
abbrev pub tree_at : ℕ → Place → List Grant → Tree
tree_at zero p gs = by_count (grants_at p gs) (λ _. none)
tree_at (suc n) p gs = by_count (grants_at p gs) (λ b. tree_at n (longer b p) gs)

-- The tree of a set of grants starts at the empty place.
unfoldable pub tree_of : List Grant → Tree
tree_of gs = tree_at 256 [] gs

-- The grants of a tree, in the order of their keys.
abbrev pub grants : Tree → List Grant
grants none = []
grants (leaf g) = g ∷ []
grants (inner l r) = grants l ++ grants r

-- Leaf hash and inner hash are given; zeros stand for a missing child, and for the root of no grants.
module _ (leaf_hash inner_hash : Bytes → Bytes → Bytes) where
  abbrev pub hash : Tree → Bytes
  hash none = zeros
  hash (leaf g) = leaf_hash g.key g.value
  hash (inner l r) = inner_hash (hash l) (hash r)

-- A tree with a version at each node.
pub data VTree : Type 0 where
  vnone : VTree
  vleaf : ℕ → Grant → VTree
  vinner : ℕ → VTree → VTree → VTree

-- Versions aren't hashed: the hash of a tree with versions is that of the tree without.
abbrev pub unversioned : VTree → Tree
unversioned vnone = none
unversioned (vleaf v g) = leaf g
unversioned (vinner v l r) = inner (unversioned l) (unversioned r)

abbrev pub grants_in : VTree → List Grant
grants_in t = grants (unversioned t)

-- The version of the node at the top; 0 where there is none.
abbrev pub top_version : VTree → ℕ
top_version vnone = 0
top_version (vleaf v g) = v
top_version (vinner v l r) = v

-- The number of leaves of a tree (2026-09).
abbrev pub leaves : VTree → ℕ
leaves vnone = 0
leaves (vleaf v g) = 1
leaves (vinner v l r) = leaves l + leaves r

-- The child on a side; none below a leaf.
abbrev pub kid : Side → VTree → VTree
kid b vnone = vnone
kid b (vleaf v g) = vnone
kid false (vinner v l r) = l
kid true (vinner v l r) = r

abbrev pub same_grants : List Grant → List Grant → Bool
same_grants [] [] = true
same_grants [] (h ∷ hs) = false
same_grants (g ∷ gs) [] = false
same_grants (g ∷ gs) (h ∷ hs) = same_bytes g.key h.key && same_bytes g.value h.value && same_grants gs hs

-- A node keeps its version if the old tree has a node at that place with the same grants below it; otherwise it gets
-- the new version. `old` is the old tree at that place: where no node is, there are no grants.
unfoldable pub node_version : ℕ → VTree → List Grant → ℕ
node_version new old gs = cond (same_grants (grants_in old) gs) (top_version old) new

abbrev pub versioned : ℕ → VTree → Tree → VTree
versioned new old none = vnone
versioned new old (leaf g) = vleaf (node_version new old (g ∷ [])) g
versioned new old (inner l r) =
    vinner (node_version new old (grants l ++ grants r)) (versioned new (kid left old) l)
    (versioned new (kid right old) r)

-- The root node, if any, always gets the new version.
abbrev pub new_root : ℕ → VTree → VTree
new_root new vnone = vnone
new_root new (vleaf v g) = vleaf new g
new_root new (vinner v l r) = vinner new l r

-- The tree that a batch makes of the old tree.
unfoldable pub next_tree : ℕ → VTree → List Ask → VTree
next_tree new old batch = new_root new (versioned new old (tree_of (with_batch batch (grants_in old))))
