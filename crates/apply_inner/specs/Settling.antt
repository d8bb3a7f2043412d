-- Document 01, 'The tree of a set of grants' and 'Retirement': what becomes of an inner node by the outcomes at its
-- children, in the values of the code. Assumes nothing.
use Rattle.std.specs.Prelude.{ℕ, ◌<◌, ◌≤◌, ◌≡◌, Bool, true, false, cond, ◌++◌, Some}
use Rattle.terms.specs.Bits.{Bytes, Place, All, longer, left, right}
use Rattle.terms.specs.Form.{RecordForm, top32}
use Rattle.hash.specs.declared.Hash.{Hash}
use Rattle.place.specs.declared.Place as place
use Rattle.place.specs.Place.{place_of}
use Rattle.layout.specs.Stores.{store_of}
use Rattle.slots.specs.declared.Child as child
use Rattle.lookup.specs.Lookup.{FoundIn}
use Rattle.steps.specs.Given.{Older}
use Rattle.steps.specs.Writing.{mark}
use Rattle.apply_place.specs.declared.Node.TheVariants as N
use Rattle.apply_place.specs.Placing.{Changed, when_writes, Single}
use Rattle.apply_place.specs.Reach.{Starts}
use Rattle.apply_outcome.specs.declared.Change as change
use Rattle.apply_outcome.specs.declared.Change.TheVariants.{Updated, Deleted, Unchanged}
use Rattle.apply_outcome.specs.declared.Outcome as declared
use Rattle.apply_outcome.specs.Outcomes.{NodeSays, node_leaves, updated_says, Kept}
use Rattle.apply_fork.specs.Fork.{Forks, Forked}
use Rattle.apply_end.specs.declared.Remains as remains
use Rattle.apply_end.specs.declared.Remains.TheVariants as R
use Rattle.apply_end.specs.Ending.{ends_says, remains_of, Ends}
use Rattle.apply_read.specs.Held.{version_in}
use Rattle.apply_read.specs.Standing.{tree_here, Standing, is_inner}

abbrev pub both_stayed : change.Change → change.Change → Bool
both_stayed Updated r = false
both_stayed Deleted r = false
both_stayed Unchanged Updated = false
both_stayed Unchanged Deleted = false
both_stayed Unchanged Unchanged = true

-- Where nothing remains it is deleted, else updated.
abbrev pub remains_change : remains.Remains → change.Change
remains_change R.Nothing = Deleted
remains_change (R.Leaf k x) = Updated
remains_change R.More = Updated

-- Both unchanged, it is unchanged.
unfoldable pub settled_says : declared.Outcome → declared.Outcome → change.Change
settled_says l r = cond (both_stayed l.change r.change) Unchanged (remains_change (remains_of l.node r.node))

module _ (new : ℕ) (writes : Bool) (s s' : Bytes) (p : place.Place) (lchild rchild : child.Child) where
  -- Both old children are marked, or those that changed.
  abbrev pub Marked : change.Change → change.Change → Type 0
  Marked lchange rchange =
      Changed (when_writes writes (mark new (ends_says lchange lchild.version (longer left (place_of p)) ++
      ends_says rchange rchild.version (longer right (place_of p))))) s s'

  -- It stays as it was, or it ends with both its children.
  abbrev pub EndsBy : ℕ → ℕ → ℕ → ℕ → change.Change → declared.Outcome → Type 0
  EndsBy reach v i j Deleted o =
      (o ≡ record { change = Deleted; node = N.Nothing; reach = reach }) × Marked Deleted Deleted
  EndsBy reach v i j Updated o = Unit {0}
  EndsBy reach v i j Unchanged o =
      (o ≡ record { change = Unchanged; node = N.Inner v lchild rchild i j; reach = reach }) × (s' ≡ s)

pub record EndsOrStays (new : ℕ) (writes : Bool) (s s' : Bytes) (p : place.Place) (lchild rchild : child.Child)
    (reach v i j : ℕ) (c : change.Change) (o : declared.Outcome) : Type 0 where
  pub by : EndsBy new writes s s' p lchild rchild reach v i j c o

-- The children as their parent's record says them, and the outcomes there.
pub record Renews (new since : ℕ) (writes : Bool) (s : Bytes) (p : place.Place) (lchild rchild : child.Child)
    (l r : declared.Outcome) : Type 0 where
  pub marks : writes ≡ true → since ≡ new
  pub ends : Ends s lchild.version rchild.version p
  pub forks : Forks writes s p lchild rchild l r

-- A lone leaf moves up; else it is new.
pub data Renewed (new : ℕ) (writes : Bool) (s s' : Bytes) (p : place.Place) (lchild rchild : child.Child)
    (l r o : declared.Outcome) : Type 0 where
  lone : (k x : Hash) → remains_of l.node r.node ≡ R.Leaf k x →
      o ≡ record { change = Updated; node = N.Leaf new k x; reach = r.reach } →
      Marked new writes s s' p lchild rchild Deleted Deleted → Renewed new writes s s' p lchild rchild l r o
  more : ((k x : Hash) → remains_of l.node r.node ≡ R.Leaf k x → ⊥) → (s₂ : Bytes) →
      Marked new writes s s₂ p lchild rchild l.change r.change →
      Forked new writes s₂ s' (place_of p) l r o → Renewed new writes s s' p lchild rchild l r o

-- By what it is settled to be.
abbrev pub SettledTo : change.Change → ℕ → Bool → Bytes → Bytes → place.Place → ℕ → child.Child → child.Child → ℕ → ℕ →
    declared.Outcome → declared.Outcome →
    declared.Outcome → Type 0
SettledTo Updated new writes s s' p v lchild rchild i j l r o = Renewed new writes s s' p lchild rchild l r o
SettledTo Deleted new writes s s' p v lchild rchild i j l r o =
    EndsBy new writes s s' p lchild rchild r.reach v i j Deleted o
SettledTo Unchanged new writes s s' p v lchild rchild i j l r o =
    EndsBy new writes s s' p lchild rchild r.reach v i j Unchanged o

-- An older tree with an inner node at its top stands at the place, its record is in a slot, each older node is there
-- once, and the outcomes at the children are in form; what ends is marked since the new version; of an unchanged one
-- the record says what is still true.
pub record Settles (new since : ℕ) (writes : Bool) (s : Bytes) (p : place.Place) (slot : ℕ) (l r : declared.Outcome) :
    Type 0 where
  pub standing : Standing s p (version_in s slot)
  pub there : FoundIn (store_of s).slots (version_in s slot) (place_of p) (Some slot)
  pub short : p.count < 256
  pub inner : is_inner (tree_here s p (version_in s slot)) ≡ true
  pub number : 1 ≤ new
  pub marks : writes ≡ true → since ≡ new
  pub older : Older new (place_of p) (tree_here s p (version_in s slot))
  pub single : (w : ℕ) (q : Place) → w < new → Single w q (store_of s).slots
  pub starts : Starts writes (store_of s).slots r.reach
  pub left_form : writes ≡ true → All RecordForm (updated_says (longer left (place_of p)) l)
  pub right_form : writes ≡ true → All RecordForm (updated_says (longer right (place_of p)) r)
  pub left_few : node_leaves l.node ≤ top32
  pub right_few : node_leaves r.node ≤ top32
  pub kept : (lchild rchild : child.Child) (i j : ℕ) → NodeSays true (N.Inner (version_in s slot) lchild rchild i j)
      (tree_here s p (version_in s slot)) → Kept writes lchild l × Kept writes rchild r

-- What becomes of that inner node.
pub record Settled (new : ℕ) (writes : Bool) (s s' : Bytes) (p : place.Place) (slot : ℕ) (l r o : declared.Outcome) :
    Type 0 where
  pub left_child : child.Child
  pub right_child : child.Child
  pub lefts : ℕ
  pub rights : ℕ
  pub node : NodeSays true (N.Inner (version_in s slot) left_child right_child lefts rights)
      (tree_here s p (version_in s slot))
  pub settled : SettledTo (settled_says l r) new writes s s' p (version_in s slot)
      left_child right_child lefts rights l r o
