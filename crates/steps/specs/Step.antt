-- Document 01, 'The tree of a set of grants': the algorithm of source document 000, on trees. 'The step at a node, the
-- step at an inner node and the step at a child call each other. Each child is handed its own run of the batch.'
-- Assumes nothing.
use Rattle.std.specs.Prelude.{ℕ, zero, suc, Bool, true, false, cond, not, ◌&&◌, List, [], ◌∷◌, ◌++◌, length}
use Rattle.std.specs.Bool.{beq}
use Rattle.std.proofs.Math.Option.{Option, none, some}
use Rattle.terms.specs.Bits.{Bytes, Side, left, right, Place, longer, filter, bit, same_bytes}
use Rattle.terms.specs.Records.{Grant, grant, Ask, insert, delete, ask_key, Record}
use Rattle.meaning.specs.Tree.{VTree, vnone, vleaf, vinner, new_root}
use Rattle.meaning.specs.Runs.{run}
use Rattle.meaning.specs.Store.{record_at}

-- 'Its outcome is updated, deleted or unchanged.'
pub data Change : Type 0 where
  updated : Change
  deleted : Change
  unchanged : Change

abbrev pub is_unchanged : Change → Bool
is_unchanged updated = false
is_unchanged deleted = false
is_unchanged unchanged = true

-- A node (version, place).
pub record Node : Type 0 where
  pub version : ℕ
  pub place : Place

-- 'An outcome carries the node that now stands there', and what is strictly below it: the new records in the order of
-- placing, and the old nodes that end. What becomes of the node itself is for its parent to say.
pub record Outcome : Type 0 where
  pub change : Change
  pub node : VTree
  pub fresh : List Record
  pub retired : List Node

abbrev pub outcome : Change → VTree → Outcome
outcome c t = record { change = c; node = t; fresh = []; retired = [] }

-- An outcome above those of two children, with what it adds to theirs.
abbrev pub above : Change → VTree → Outcome → Outcome → List Record → List Node → Outcome
above c t a b placing ending = record {
  change = c;
  node = t;
  fresh = a.fresh ++ b.fresh ++ placing;
  retired = a.retired ++ b.retired ++ ending;
}

-- The node at a place, if there is one.
abbrev pub node_at : Place → VTree → List Node
node_at p vnone = []
node_at p (vleaf v g) = record { version = v; place = p } ∷ []
node_at p (vinner v l r) = record { version = v; place = p } ∷ []

-- A child that was updated or deleted ends.
abbrev pub ends_at : Change → Place → VTree → List Node
ends_at updated p old = node_at p old
ends_at deleted p old = node_at p old
ends_at unchanged p old = []

-- The inserts of a run; deletes are passed over.
abbrev pub inserts : List Ask → List Grant
inserts [] = []
inserts (insert k x ∷ asks) = grant k x ∷ inserts asks
inserts (delete k ∷ asks) = inserts asks

-- What a run asks for a key.
abbrev pub own_ask : Bytes → List Ask → Option Ask
own_ask k [] = none
own_ask k (a ∷ asks) = cond (same_bytes (ask_key a) k) (some a) (own_ask k asks)

-- An ask for another key.
abbrev pub asks_else : Bytes → Ask → Bool
asks_else k a = not (same_bytes (ask_key a) k)

-- The inserts of a run for other keys.
abbrev pub other_inserts : Bytes → List Ask → List Grant
other_inserts k asks = inserts (filter (asks_else k) asks)

-- The grants of a subtree that grows: the inserts of the run, and the leaf if one stays.
abbrev pub to_grow : Option Grant → List Ask → List Grant
to_grow none asks = inserts asks
to_grow (some g) asks = g ∷ inserts asks

-- The leaf that stays goes to its side.
abbrev pub leaf_on : ℕ → Side → Option Grant → Option Grant
leaf_on i b none = none
leaf_on i b (some g) = cond (beq b (bit i g.key)) (some g) none

-- What stands above two children: nothing, a lone leaf moved up, or an inner node.
abbrev pub by_children : VTree → VTree → Outcome → (Grant → Outcome) → Outcome → Outcome
by_children vnone vnone nothing lone both = nothing
by_children vnone (vleaf w g) nothing lone both = lone g
by_children vnone (vinner w l r) nothing lone both = both
by_children (vleaf v g) vnone nothing lone both = lone g
by_children (vleaf v g) (vleaf w h) nothing lone both = both
by_children (vleaf v g) (vinner w l r) nothing lone both = both
by_children (vinner v l r) t nothing lone both = both

-- A step, at a place: from the old tree there and its run.
abbrev pub Step : Type 0
Step = Place → VTree → List Ask → Outcome

-- The step at a child: without a run it is unchanged, and not looked into; with one it is the step at the node, which
-- grows where none is.
abbrev pub step_child : Step → Step
step_child node p t [] = outcome unchanged t
step_child node p t (a ∷ asks) = node p t (a ∷ asks)

module _ (leaf_hash inner_hash : Bytes → Bytes → Bytes) where
  -- A child that was updated is placed.
  abbrev pub places_at : Change → Place → VTree → List Record
  places_at updated p t = record_at leaf_hash inner_hash p t
  places_at deleted p t = []
  places_at unchanged p t = []

module _ (leaf_hash inner_hash : Bytes → Bytes → Bytes) (new : ℕ) where
  -- A new inner node above two children, the left one placed before the right one.
  abbrev pub fork : Place → Outcome → Outcome → List Node → Outcome
  fork p a b ending =
      above updated (vinner new a.node b.node) a b
      (places_at leaf_hash inner_hash a.change (longer left p) a.node ++
      places_at leaf_hash inner_hash b.change (longer right p) b.node)
      ending

  -- By the grants that are to grow: none, no node; one, a leaf; two or more, an inner node.
  abbrev pub grow_by : Place → List Grant → (Side → Outcome) → Outcome
  grow_by p [] child = outcome unchanged vnone
  grow_by p (g ∷ []) child = outcome updated (vleaf new g)
  grow_by p (g ∷ h ∷ gs) child = fork p (child left) (child right) []

  -- 'A run of inserts with no node there grows a subtree; at a leaf, with the leaf if it stays.' The place is n bits
  -- short of a key; where n is 0, no two keys begin with it.
  unfoldable pub grow : ℕ → Place → Option Grant → List Ask → Outcome
  grow zero p stays asks = grow_by p (to_grow stays asks) (λ b. outcome unchanged vnone)
  grow (suc n) p stays asks =
      grow_by p (to_grow stays asks) (λ b. grow n (longer b p) (leaf_on (length p) b stays) (run (length p) b asks))

  -- At a leaf, by what the run asks for its key and inserts beside it; an insert of the value already there is no
  -- change.
  abbrev pub leaf_by : ℕ → Grant → Option Ask → List Grant → (Option Grant → Outcome) → Outcome
  leaf_by v g none [] grown = outcome unchanged (vleaf v g)
  leaf_by v g none (h ∷ hs) grown = grown (some g)
  leaf_by v g (some (insert k x)) [] grown =
      cond (same_bytes x g.value) (outcome unchanged (vleaf v g)) (outcome updated (vleaf new (grant g.key x)))
  leaf_by v g (some (delete k)) [] grown = outcome deleted vnone
  leaf_by v g (some a) (h ∷ hs) grown = grown none

  -- The step at a leaf: a leaf stays where the run asks nothing for its key.
  unfoldable pub step_leaf : ℕ → Place → ℕ → Grant → List Ask → Outcome
  step_leaf n p v g asks = leaf_by v g (own_ask g.key asks) (other_inserts g.key asks) (λ stays. grow n p stays asks)

  -- At an inner node (v, p) above l and r, by the outcomes at its children: both unchanged, it is unchanged. A lone
  -- leaf moves up, and its old record retires though it be unchanged.
  unfoldable pub inner_by : Place → ℕ → VTree → VTree → Outcome → Outcome → Outcome
  inner_by p v l r a b =
      let ending : List Node = node_at (longer left p) l ++ node_at (longer right p) r in
      cond (is_unchanged a.change && is_unchanged b.change)
      (above unchanged (vinner v l r) a b [] [])
      (by_children a.node b.node
      (above deleted vnone a b [] ending)
      (λ g. above updated (vleaf new g) a b [] ending)
      (fork p a b (ends_at a.change (longer left p) l ++ ends_at b.change (longer right p) r)))

  -- The step at an inner node splits the run by the next bit, and makes the step at each child.
  unfoldable pub step_inner : Step → Place → ℕ → VTree → VTree → List Ask → Outcome
  step_inner child p v l r asks =
      inner_by p v l r
      (child (longer left p) l (run (length p) left asks))
      (child (longer right p) r (run (length p) right asks))

  -- By the old node there.
  abbrev pub node_by : ℕ → (Place → ℕ → VTree → VTree → List Ask → Outcome) → Step
  node_by n inner p vnone asks = grow n p none asks
  node_by n inner p (vleaf v g) asks = step_leaf n p v g asks
  node_by n inner p (vinner v l r) asks = inner p v l r asks

  -- The step at a node, at a place that is n bits short of a key; no inner node stands at the place of a whole key.
  unfoldable pub step_node : ℕ → Step
  step_node zero p t asks = node_by zero (λ p v l r asks. outcome unchanged (vinner v l r)) p t asks
  step_node (suc n) p t asks = node_by (suc n) (step_inner (step_child (step_node n))) p t asks

  -- At the root: the old one ends, and the new one, if any, has the new version and is placed last.
  abbrev pub at_root : VTree → Outcome → Outcome
  at_root old o = record {
    change = o.change;
    node = new_root new o.node;
    fresh = o.fresh ++ record_at leaf_hash inner_hash [] (new_root new o.node);
    retired = o.retired ++ node_at [] old;
  }

  -- A batch on a whole tree.
  unfoldable pub step_root : VTree → List Ask → Outcome
  step_root old batch = at_root old (step_node 256 [] old batch)
