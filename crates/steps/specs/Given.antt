-- What document 01 gives at a place, in the words of the outcome of a step there. Assumes nothing.
use Rattle.std.specs.Prelude.{ℕ, ◌<◌, ◌≡◌, ◌↔◌, ◌⊎◌, Bool, true, false, List, [], ◌∷◌, ◌++◌, eqb}
use Rattle.terms.specs.Bits.{Bytes, Place, filter}
use Rattle.terms.specs.Records.{Grant, Record}
use Rattle.meaning.specs.Tree.{Tree, grants, VTree, grants_in, same_grants, versioned}
use Rattle.meaning.specs.Store.{records_below}
use Rattle.meaning.specs.Sound.{NodeOf}
use Rattle.steps.specs.Step.{Change, updated, deleted, unchanged, Node, Outcome, ends_at}

-- All versions of the tree t that stands at p are below the new one.
abbrev pub Older : ℕ → Place → VTree → Type 0
Older new p t = (v : ℕ) (q : Place) → NodeOf v q t p → v < new

abbrev pub change_by : Bool → List Grant → Change
change_by true now = unchanged
change_by false [] = deleted
change_by false (g ∷ gs) = updated

-- Unchanged: the grants are the same ones; deleted: there were some and none are left; else updated.
abbrev pub change_of : List Grant → List Grant → Change
change_of old now = change_by (same_grants old now) now

abbrev pub is_new : ℕ → Record → Bool
is_new new r = eqb r.version new

-- The node (v, q) is among those of a list.
abbrev pub Among : ℕ → Place → List Node → Type 0
Among v q [] = ⊥
Among v q (x ∷ xs) = ((x.version ≡ v) × (x.place ≡ q)) ⊎ Among v q xs

-- The outcome o at p is what is given where the grants of t become those of now.
module _ (leaf_hash inner_hash : Bytes → Bytes → Bytes) where
  pub record Gives (new : ℕ) (p : Place) (t : VTree) (now : Tree) (o : Outcome) : Type 0 where
    -- the node that now stands there
    pub node_is : o.node ≡ versioned new t now
    pub change_is : o.change ≡ change_of (grants_in t) (grants now)
    -- the new records strictly below it, in the order of placing
    pub fresh_is : o.fresh ≡ filter (is_new new) (records_below leaf_hash inner_hash p o.node)
    -- what ends, with the node itself as its parent says it: the nodes of t that the node that now stands there hasn't
    pub retired_is : (v : ℕ) (q : Place) →
        Among v q (o.retired ++ ends_at o.change p t) ↔ (NodeOf v q t p × (NodeOf v q o.node p → ⊥))
