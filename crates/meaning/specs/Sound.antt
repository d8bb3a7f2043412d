-- Document 01, 'Sound', with the counts of 2026-09. Assumes nothing.
use Rattle.std.specs.Prelude.{ℕ, ◌≤◌, ◌<◌, ◌≡◌, ◌↔◌, ◌⊎◌, Bool, true, false, [], length, get_or}
use Rattle.std.proofs.Math.Option.{some}
use Rattle.terms.specs.declared.Form.{Form}
use Rattle.terms.specs.declared.Form.TheVariants.{Plain as plain, Counted as counted}
use Rattle.terms.specs.Bits.{Bytes, Whole32, left, right, Place, longer, begins}
use Rattle.terms.specs.Records.{Body, leaf_body, inner_body, Tally, tally, Record, free, used, spoiled, Store}
use Rattle.terms.specs.Form.{RecordForm, top32}
pub use Rattle.terms.specs.Form.{most_slots}
use Rattle.meaning.specs.Tree.{VTree, vnone, vleaf, vinner, leaves}
use Rattle.meaning.specs.Store.{find, tree_at_version, child_of, retired_by}

-- Slot i holds the record r.
unfoldable pub At : Store → ℕ → Record → Type 0
At st i r = (i < length st.slots) × (get_or st.slots i free ≡ used r)

-- A kept version.
abbrev pub Kept : Store → ℕ → Type 0
Kept st v = (st.oldest ≤ v) × (v ≤ st.latest)

-- An inner node's only child is a leaf.
abbrev pub only_leaf : VTree → VTree → Bool
only_leaf vnone vnone = false
only_leaf vnone (vleaf v g) = true
only_leaf vnone (vinner v l r) = false
only_leaf (vleaf v g) vnone = true
only_leaf (vleaf v g) (vleaf w h) = false
only_leaf (vleaf v g) (vinner w l r) = false
only_leaf (vinner v l r) t = false

-- The node (v, p) is found, with this body.
unfoldable pub Found : Store → ℕ → Place → Body → Type 0
Found st v p b = (r : Record) × (find v p st.slots ≡ some r) × (r.body ≡ b)

-- The counts that a record has are these; the plain form has no counts.
abbrev pub CountsAre : Form → Tally → Tally → Type 0
CountsAre plain c d = Unit {0}
CountsAre counted c d = c ≡ d

-- The node (v, p) is found, with these counts.
unfoldable pub Tallied : Store → ℕ → Place → Tally → Type 0
Tallied st v p c = (r : Record) × (find v p st.slots ≡ some r) × CountsAre st.form r.counts c

-- (v, q) is a node of the tree t that stands at p.
abbrev pub NodeOf : ℕ → Place → VTree → Place → Type 0
NodeOf v q vnone p = ⊥
NodeOf v q (vleaf w g) p = (w ≡ v) × (p ≡ q)
NodeOf v q (vinner w l r) p =
    ((w ≡ v) × (p ≡ q)) ⊎ (NodeOf v q l (longer left p) ⊎ NodeOf v q r (longer right p))

-- A hash function that gives 32 bytes, as SHA-256 does.
abbrev pub Hashes32 : (Bytes → Bytes → Bytes) → Type 0
Hashes32 f = (x y : Bytes) → Whole32 (f x y)

-- A record lives at v: its version is at most v and it isn't retired by v.
abbrev pub Lives : ℕ → Record → Type 0
Lives v r = (r.version ≤ v) × (retired_by v r ≡ false)

module _ (leaf_hash inner_hash : Bytes → Bytes → Bytes) where
  -- A tree stands at a place: children are found at their version and place, leaves' keys begin with their place,
  -- stored hashes and counts (2026-09) are the children's, and no inner node's only child is a leaf. A present child
  -- that is not found is no tree, so its version and hash are not what the record says.
  abbrev pub Stands : Store → Place → VTree → Type 0
  Stands st p vnone = Unit {0}
  Stands st p (vleaf v g) = Found st v p (leaf_body g.key g.value) × (begins p g.key ≡ true)
  Stands st p (vinner v l r) =
      Found st v p (inner_body (child_of leaf_hash inner_hash l) (child_of leaf_hash inner_hash r))
      × (only_leaf l r ≡ false)
      × Stands st (longer left p) l
      × Stands st (longer right p) r
      × Tallied st v p (tally (leaves l) (leaves r))

  pub record Sound (st : Store) : Type 0 where
    -- size and header are right
    pub size : (1 ≤ length st.slots) × (length st.slots ≤ most_slots)
    pub header : (st.oldest ≤ st.latest) × (st.latest ≤ top32)
    -- every slot is free or in form
    pub whole : (i : ℕ) (x : Bytes) → i < length st.slots → get_or st.slots i free ≡ spoiled x → ⊥
    pub formed : (i : ℕ) (r : Record) → At st i r → RecordForm r
    -- no two records share version and place
    pub unique : (i j : ℕ) (r q : Record) → At st i r → At st j q → r.version ≡ q.version → r.place ≡ q.place →
        i ≡ j
    -- versions lie in 1 to latest
    pub versions : (i : ℕ) (r : Record) → At st i r → (1 ≤ r.version) × (r.version ≤ st.latest)
    -- retired-since is 0 or above the record's version, above oldest and at most latest
    pub lifetimes : (i : ℕ) (r : Record) → At st i r →
        (r.retired ≡ 0) ⊎ ((r.version < r.retired) × (st.oldest < r.retired) × (r.retired ≤ st.latest))
    -- for each kept version v, the root record, where present, starts a tree as above
    pub stands : (v : ℕ) → Kept st v → Stands st [] (tree_at_version st v)
    -- and a record is in v's tree exactly if it lives at v
    pub exact : (v : ℕ) → Kept st v → (i : ℕ) (r : Record) → At st i r →
        NodeOf r.version r.place (tree_at_version st v) [] ↔ Lives v r
