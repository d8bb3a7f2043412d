-- Document 02, request 2026-01, over the bytes of a store: the tree that is compared at a place, by its top. No public
-- promise reaches this file. Assumes nothing.
use Rattle.std.specs.Prelude.{ℕ, ◌-◌, ◌<◌, ◌≡◌, Bool, cond, length}
use Rattle.terms.specs.declared.Form.TheVariants.{Counted as counted}
use Rattle.terms.specs.Bits.{Bytes, left, right, longer}
use Rattle.terms.specs.Records.{Grant, grant}
use Rattle.meaning.specs.Tree.{VTree, vnone, vleaf, vinner}
use Rattle.meaning.specs.Store.{tree_from}
use Rattle.place.specs.declared.Place as place
use Rattle.place.specs.Place.{place_of}
use Rattle.layout.specs.Sizes.{room_of}
use Rattle.layout.specs.Slots.{is_leaf, version_in, key_in, value_inside, left_in, right_in}
use Rattle.layout.specs.Stores.{slot_in, store_of}
use Rattle.changed.specs.Visits.{no_deeper}
use Rattle.changes_top.specs.declared.Top as declared
use Rattle.changes_top.specs.declared.Top.TheVariants.{Nothing, Leaf, Inner}

-- The grant of the leaf in slot i.
unfoldable pub grant_at : ℕ → Bytes → Grant
grant_at i s = grant (key_in (slot_in counted i s)) (value_inside (slot_in counted i s))

-- What the record in slot i is the top of.
unfoldable pub top_in : ℕ → Bytes → declared.Top
top_in i s =
    cond (is_leaf (slot_in counted i s)) (Leaf i)
    (Inner i (version_in (slot_in counted i s)) (left_in (slot_in counted i s)).version
    (right_in (slot_in counted i s)).version)

-- The tree that is read on from a version and place.
unfoldable pub tree_here : Bytes → place.Place → ℕ → VTree
tree_here s p v = tree_from (256 - p.count) (store_of s).slots v (place_of p)

-- The tree with this top at a place; a leaf's record may stand further up.
abbrev pub top_tree : Bytes → place.Place → declared.Top → VTree
top_tree s p Nothing = vnone
top_tree s p (Leaf i) = vleaf (version_in (slot_in counted i s)) (grant_at i s)
top_tree s p (Inner i v l r) =
    vinner v (tree_from (255 - p.count) (store_of s).slots l (longer left (place_of p)))
    (tree_from (255 - p.count) (store_of s).slots r (longer right (place_of p)))

-- A leaf's slot is one of the store's, and an inner node's place is shorter than a key.
abbrev pub TopRight : Bytes → place.Place → declared.Top → Type 0
TopRight s p Nothing = Unit {0}
TopRight s p (Leaf i) = i < room_of counted (length s)
TopRight s p (Inner i v l r) = p.count < 256

-- What was read is the top of a tree.
pub record TopSays (s : Bytes) (p : place.Place) (t : VTree) (r : declared.Top) : Type 0 where
  pub right : TopRight s p r
  pub tree : top_tree s p r ≡ t

-- Whether two tops at one place, of whatever store, go no deeper.
abbrev pub DeeperSays : declared.Top → declared.Top → Bool → Type 0
DeeperSays first second r = (s : Bytes) (p : place.Place) → r ≡ no_deeper (top_tree s p first) (top_tree s p second)
