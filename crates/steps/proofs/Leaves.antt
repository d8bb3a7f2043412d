-- A step adds at most a leaf for each ask: so the counts of what the steps make, from a tree of 16,384 leaves and a batch of 1,024 asks at most,
-- are sums that four bytes hold, at every place on the way. Nothing is asked of the tree or of the batch. Assumes nothing.
use Prim.Native.Nat.{ℕ, zero, suc, ◌+◌, ◌≤◌}
use native.Mathlib.Omega.{arith}
use mathlib.Core.Path.{◌≡◌, refl}
use mathlib.Core.Bool.{Bool, true, false, cond, ◌&&◌, beq}
use mathlib.Core.List.{List, [], ◌∷◌, ◌++◌}
use mathlib.Core.Option.{Option, none, some}
use lib.ListN.{length}
use Rattle.terms.specs.Bits.{Bytes, Side, left, right, Place, longer, bit, same_bytes}
use Rattle.terms.specs.Records.{Grant, grant, Ask, insert, delete, ask_key}
use Rattle.meaning.specs.Tree.{VTree, vnone, vleaf, vinner, leaves, new_root}
use Rattle.meaning.specs.Runs.{run}
use Rattle.steps.specs.Step.{is_unchanged, updated, deleted, unchanged, Node, node_at, ends_at, Outcome, outcome, above, inserts, own_ask, other_inserts, to_grow, leaf_on, by_children, Step, step_child, fork, grow_by, grow, leaf_by, step_leaf, inner_by, step_inner, step_node, step_root}

-- the two runs of a batch are all of it
runs_are : (i : ℕ) (asks : List Ask) → length (run i left asks) + length (run i right asks) ≡ length asks
runs_are i [] = refl
runs_are i (a ∷ asks) = go (bit i (ask_key a)) (runs_are i asks)
  where
    go : (b : Bool) → length (run i left asks) + length (run i right asks) ≡ length asks →
        length (cond (beq left b) (a ∷ run i left asks) (run i left asks)) + length (cond (beq right b) (a ∷ run i right asks) (run i right asks))
        ≡ suc (length asks)
    go true e = omega arith
    go false e = omega arith

few_inserts : (asks : List Ask) → length (inserts asks) ≤ length asks
few_inserts [] = omega arith
few_inserts (insert k x ∷ asks) = omega (arith, few_inserts asks)
few_inserts (delete k ∷ asks) = omega (arith, few_inserts asks)

-- the leaf that stays
abbrev one : Option Grant → ℕ
one none = 0
one (some g) = 1

one_side : (i : ℕ) (stays : Option Grant) → one (leaf_on i left stays) + one (leaf_on i right stays) ≡ one stays
one_side i none = refl
one_side i (some g) = go (bit i g.key)
  where
    go : (b : Bool) → one (cond (beq left b) (some g) none) + one (cond (beq right b) (some g) none) ≡ 1
    go true = refl
    go false = refl

to_grow_lem : (stays : Option Grant) (asks : List Ask) → length (to_grow stays asks) ≤ one stays + length asks
to_grow_lem none asks = omega (arith, few_inserts asks)
to_grow_lem (some g) asks = omega (arith, few_inserts asks)

-- what stands above two children has their leaves at most
above_few : (a b : VTree) (nothing both : Outcome) (lone : Grant → Outcome) (n : ℕ) → leaves a + leaves b ≤ n → leaves nothing.node ≤ n →
    (1 ≤ leaves a + leaves b → (g : Grant) → leaves (lone g).node ≤ n) → leaves both.node ≤ n → leaves (by_children a b nothing lone both).node ≤ n
above_few vnone vnone nothing both lone n h x y z = x
above_few vnone (vleaf w g) nothing both lone n h x y z = y (omega arith) g
above_few vnone (vinner w l r) nothing both lone n h x y z = z
above_few (vleaf v g) vnone nothing both lone n h x y z = y (omega arith) g
above_few (vleaf v g) (vleaf w k) nothing both lone n h x y z = z
above_few (vleaf v g) (vinner w l r) nothing both lone n h x y z = z
above_few (vinner v l r) t nothing both lone n h x y z = z

module _ (leaf_hash inner_hash : Bytes → Bytes → Bytes) (new : ℕ) where
  grow_by_lem : (p : Place) (gs : List Grant) (child : Side → Outcome) (n : ℕ) → length gs ≤ n → leaves (child left).node + leaves (child right).node ≤ n →
      leaves (grow_by leaf_hash inner_hash new p gs child).node ≤ n
  grow_by_lem p [] child n h k = omega arith
  grow_by_lem p (g ∷ []) child n h k = h
  grow_by_lem p (g ∷ g' ∷ gs) child n h k = k

  pub grow_leaves : (n : ℕ) (p : Place) (stays : Option Grant) (asks : List Ask) →
      leaves (grow leaf_hash inner_hash new n p stays asks).node ≤ one stays + length asks
  unfolding grow
  grow_leaves zero p stays asks = grow_by_lem p (to_grow stays asks) _ (one stays + length asks) (to_grow_lem stays asks) (omega arith)
  grow_leaves (suc n) p stays asks =
      let l = grow_leaves n (longer left p) (leaf_on (length p) left stays) (run (length p) left asks) in
      let r = grow_leaves n (longer right p) (leaf_on (length p) right stays) (run (length p) right asks) in
      grow_by_lem p (to_grow stays asks) _ (one stays + length asks) (to_grow_lem stays asks)
      (omega (arith, l, r, one_side (length p) stays, runs_are (length p) asks))

  leaf_by_lem : (v : ℕ) (g : Grant) (own : Option Ask) (others : List Grant) (grown : Option Grant → Outcome) (n : ℕ) →
      ((stays : Option Grant) → leaves (grown stays).node ≤ one stays + n) →
      leaves (leaf_by leaf_hash inner_hash new v g own others grown).node ≤ 1 + n
  leaf_by_lem v g none [] grown n f = omega arith
  leaf_by_lem v g none (h ∷ hs) grown n f = f (some g)
  leaf_by_lem v g (some (insert k x)) [] grown n f =
      elim (same_bytes x g.value) as (λ b. leaves (cond b (outcome unchanged (vleaf v g)) (outcome updated (vleaf new (grant g.key x)))).node ≤ 1 + n)
      [ true ↦ omega arith | false ↦ omega arith ]
  leaf_by_lem v g (some (delete k)) [] grown n f = omega arith
  leaf_by_lem v g (some (insert k x)) (h ∷ hs) grown n f = omega (arith, f none)
  leaf_by_lem v g (some (delete k)) (h ∷ hs) grown n f = omega (arith, f none)

  -- at a leaf
  pub leaf_leaves : (n : ℕ) (p : Place) (v : ℕ) (g : Grant) (asks : List Ask) →
      leaves (step_leaf leaf_hash inner_hash new n p v g asks).node ≤ 1 + length asks
  unfolding step_leaf
  leaf_leaves n p v g asks =
      leaf_by_lem v g (own_ask g.key asks) (other_inserts g.key asks) _ (length asks) (λ stays. grow_leaves n p stays asks)

  -- at an inner node, by the outcomes at its children
  pub inner_leaves : (p : Place) (v : ℕ) (l r : VTree) (a b : Outcome) (m n : ℕ) → leaves a.node ≤ leaves l + m → leaves b.node ≤ leaves r + n →
      leaves (inner_by leaf_hash inner_hash new p v l r a b).node ≤ leaves l + leaves r + (m + n)
  unfolding inner_by
  inner_leaves p v l r a b m n h k = go (is_unchanged a.change && is_unchanged b.change)
    where
      ending : List Node
      ending = node_at (longer left p) l ++ node_at (longer right p) r

      go : (t : Bool) →
          leaves (cond t (above unchanged (vinner v l r) a b [] [])
          (by_children a.node b.node (above deleted vnone a b [] ending) (λ g. above updated (vleaf new g) a b [] ending)
          (fork leaf_hash inner_hash new p a b (ends_at a.change (longer left p) l ++ ends_at b.change (longer right p) r)))).node
          ≤ leaves l + leaves r + (m + n)
      go true = omega arith
      go false = above_few a.node b.node _ _ _ (leaves l + leaves r + (m + n)) (omega arith) (omega arith) (λ one g. omega arith) (omega arith)

  -- a step at a node adds at most a leaf for each ask
  abbrev Few : Step → Type 0
  Few step = (p : Place) (t : VTree) (asks : List Ask) → leaves (step p t asks).node ≤ leaves t + length asks

  child_few : (step : Step) → Few step → Few (step_child step)
  child_few step f p t [] = omega arith
  child_few step f p t (a ∷ asks) = f p t (a ∷ asks)

  pub step_leaves : (n : ℕ) → Few (step_node leaf_hash inner_hash new n)
  unfolding step_node step_inner
  step_leaves zero p vnone asks = grow_leaves 0 p none asks
  step_leaves zero p (vleaf v g) asks = leaf_leaves 0 p v g asks
  step_leaves zero p (vinner v l r) asks = omega arith
  step_leaves (suc n) p vnone asks = grow_leaves (suc n) p none asks
  step_leaves (suc n) p (vleaf v g) asks = leaf_leaves (suc n) p v g asks
  step_leaves (suc n) p (vinner v l r) asks =
      let child = step_child (step_node leaf_hash inner_hash new n) in
      let f = child_few (step_node leaf_hash inner_hash new n) (step_leaves n) in
      let to_left = run (length p) left asks in
      let to_right = run (length p) right asks in
      let x =
      inner_leaves p v l r (child (longer left p) l to_left) (child (longer right p) r to_right) (length to_left) (length to_right)
      (f (longer left p) l to_left) (f (longer right p) r to_right) in
      omega (arith, x, runs_are (length p) asks)

  new_root_lem : (t : VTree) → leaves (new_root new t) ≡ leaves t
  new_root_lem vnone = refl
  new_root_lem (vleaf v g) = refl
  new_root_lem (vinner v l r) = refl

  -- and so does a batch on a whole tree
  pub root_leaves : (old : VTree) (batch : List Ask) → leaves (step_root leaf_hash inner_hash new old batch).node ≤ leaves old + length batch
  unfolding step_root
  root_leaves old batch = rw (new_root_lem (step_node leaf_hash inner_hash new 256 [] old batch).node) (step_leaves 256 [] old batch)
