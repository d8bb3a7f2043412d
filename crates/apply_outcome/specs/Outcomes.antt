-- Document 01, 'The tree of a set of grants': what the outcome of a step says, case by case. Assumes nothing.
use Rattle.std.specs.Prelude.{ℕ, ◌+◌, ◌≤◌, ◌≡◌, Bool, true, false, List, [], length}
use Rattle.terms.specs.Bits.{Bytes, Place}
use Rattle.terms.specs.Records.{Child, child, Record, zeros, grant}
use Rattle.terms.specs.Form.{top32}
use Rattle.meaning.specs.Tree.{VTree, vnone, vleaf, vinner, leaves}
use Rattle.meaning.specs.Store.{child_of}
use Rattle.hash.specs.Hash.{hash_bytes}
use Rattle.nodehash.specs.Node.{leaf_hash, inner_hash}
use Rattle.layout.specs.Stores.{store_of}
use Rattle.slots.specs.declared.Child as declared-child
use Rattle.slots.specs.Answer.{child_says}
use Rattle.steps.specs.Step as step
use Rattle.steps.specs.Writing.{written}
use Rattle.apply_place.specs.declared.Node as node
use Rattle.apply_place.specs.declared.Node.TheVariants.{Nothing, Leaf, Inner}
use Rattle.apply_place.specs.Placing.{Changed, when_writes, record_says}
use Rattle.apply_place.specs.Reach.{Reaches}
use Rattle.apply_outcome.specs.declared.Change as declared-change
use Rattle.apply_outcome.specs.declared.Change.TheVariants.{Updated, Deleted, Unchanged}
use Rattle.apply_outcome.specs.declared.Outcome as declared

abbrev pub change_says : declared-change.Change → step.Change
change_says Updated = step.updated
change_says Deleted = step.deleted
change_says Unchanged = step.unchanged

-- What is written of a tree in its parent's record is true; where nothing is written, nothing is hashed.
abbrev pub ChildSays : Bool → declared-child.Child → VTree → Type 0
ChildSays true c t = child_says c ≡ child_of leaf_hash inner_hash t
ChildSays false c t = Unit {0}

-- Two counts are the numbers of leaves of two trees, and four bytes hold their sum.
pub record Weighs (m n : ℕ) (a b : VTree) : Type 0 where
  pub left_is : m ≡ leaves a
  pub right_is : n ≡ leaves b
  pub few : m + n ≤ top32

-- A node is the top of a tree: a leaf with its grant, an inner node with what it says of the trees at its children.
abbrev pub NodeSays : Bool → node.Node → VTree → Type 0
NodeSays w Nothing t = t ≡ vnone
NodeSays w (Leaf v k x) t = t ≡ vleaf v (grant (hash_bytes k) (hash_bytes x))
NodeSays w (Inner v l r m n) t =
    (a : VTree) × (b : VTree) × (t ≡ vinner v a b) × ChildSays w l a × ChildSays w r b × Weighs m n a b

-- What the parent's record says of a node: its version and hash.
abbrev pub node_child : node.Node → Child
node_child Nothing = child 0 zeros
node_child (Leaf v k x) = child v (leaf_hash (hash_bytes k) (hash_bytes x))
node_child (Inner v l r m n) = child v (inner_hash (hash_bytes l.hash) (hash_bytes r.hash))

-- How many leaves a node says there are.
abbrev pub node_leaves : node.Node → ℕ
node_leaves Nothing = 0
node_leaves (Leaf v k x) = 1
node_leaves (Inner v l r m n) = m + n

abbrev pub changed_record : declared-change.Change → List Record → List Record
changed_record Updated rs = rs
changed_record Deleted rs = []
changed_record Unchanged rs = []

-- The record of a node that was updated.
unfoldable pub updated_says : Place → declared.Outcome → List Record
updated_says p o = changed_record o.change (record_says p o.node)

-- The outcome of the code is the outcome o, and its writes are those of o, from a reach on.
pub record Did (new : ℕ) (writes : Bool) (from : ℕ) (s s' : Bytes) (o : step.Outcome) (r : declared.Outcome) :
    Type 0 where
  pub change : change_says r.change ≡ o.change
  pub node : NodeSays writes r.node o.node
  pub reach : Reaches writes from (length o.fresh) (store_of s').slots r.reach
  pub bytes : Changed (when_writes writes (written new o)) s s'

-- What the old record says of an unchanged child is still true of it.
abbrev pub Kept : Bool → declared-child.Child → declared.Outcome → Type 0
Kept writes c o = writes ≡ true → o.change ≡ Unchanged → child_says c ≡ node_child o.node

-- What a new record says of a child is true of its outcome.
abbrev pub ChildAfter : Bool → declared.Outcome → declared-child.Child → Type 0
ChildAfter writes o c = writes ≡ true → child_says c ≡ node_child o.node
