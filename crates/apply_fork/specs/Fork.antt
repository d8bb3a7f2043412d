-- Document 01, 'The tree of a set of grants': a new inner node above the outcomes at its children. Assumes nothing.
use Rattle.std.specs.Prelude.{ℕ, ◌<◌, ◌≤◌, ◌≡◌, Bool, true, ◌++◌}
use Rattle.terms.specs.Bits.{Bytes, Place, All, longer, left, right}
use Rattle.terms.specs.Form.{RecordForm, top32}
use Rattle.place.specs.declared.Place as place
use Rattle.place.specs.Place.{place_of, Proper}
use Rattle.layout.specs.Stores.{store_of}
use Rattle.slots.specs.declared.Child as declared-child
use Rattle.apply_place.specs.declared.Node.TheVariants.{Inner}
use Rattle.apply_place.specs.Placing.{Stored}
use Rattle.apply_place.specs.Reach.{Starts, Placed}
use Rattle.apply_outcome.specs.declared.Change.TheVariants.{Updated}
use Rattle.apply_outcome.specs.declared.Outcome as declared
use Rattle.apply_outcome.specs.Outcomes.{node_leaves, updated_says, Kept, ChildAfter}

-- Two outcomes at the children of an inner node, whose records are in form, and what its old record says of the
-- children.
pub record Forks (writes : Bool) (s : Bytes) (p : place.Place) (lchild rchild : declared-child.Child)
    (l r : declared.Outcome) : Type 0 where
  pub stored : Stored s
  pub starts : Starts writes (store_of s).slots r.reach
  pub proper : Proper p
  pub short : p.count < 256
  pub left_form : writes ≡ true → All RecordForm (updated_says (longer left (place_of p)) l)
  pub right_form : writes ≡ true → All RecordForm (updated_says (longer right (place_of p)) r)
  pub left_kept : Kept writes lchild l
  pub right_kept : Kept writes rchild r
  pub left_few : node_leaves l.node ≤ top32
  pub right_few : node_leaves r.node ≤ top32

-- The inner node above them.
pub record Forked (new : ℕ) (writes : Bool) (s s' : Bytes) (p : Place) (l r o : declared.Outcome) : Type 0 where
  pub left_child : declared-child.Child
  pub right_child : declared-child.Child
  pub change : o.change ≡ Updated
  pub node : o.node ≡ Inner new left_child right_child (node_leaves l.node) (node_leaves r.node)
  pub left_is : ChildAfter writes l left_child
  pub right_is : ChildAfter writes r right_child
  pub placed : Placed writes r.reach (updated_says (longer left p) l ++ updated_says (longer right p) r) s s'
      o.reach
