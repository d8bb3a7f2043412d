-- The tree that a batch makes: each node is new, or it and all below it stands so in the old tree. A node that keeps its version has its
-- grants, and a shaped tree is the tree of its grants. Assumes nothing.
use Prim.Native.Nat.{ℕ, zero, suc, ◌+◌}
use native.Mathlib.Omega.{arith}
use mathlib.Core.Path.{◌≡◌, refl, ap, sym, ◌∙◌, subst}
use mathlib.Core.Logic.{◌⊎◌, inl, inr}
use mathlib.Core.Bool.{Bool, true, false}
use mathlib.Core.List.{List, [], ◌∷◌, ◌++◌}
use lib.ListN.{length}
use Rattle.terms.specs.Bits.{left, right, Place, longer, All}
use Rattle.terms.specs.Records.{Grant, Ask}
use Rattle.terms.specs.Form.{GrantForm, AskForm}
use Rattle.terms.proofs.Places.{length_longer}
use Rattle.meaning.specs.Tree.{with_batch, Tree, none, leaf, inner, tree_of, grants, VTree, vnone, vleaf, vinner, unversioned, grants_in, kid, top_version, same_grants, node_version, versioned, new_root, next_tree}
use Rattle.meaning.specs.Sound.{NodeOf}
use Rattle.meaning.proofs.Runs.{Ascending, ascending_batch, batch_form_lem}
use Rattle.meaning.proofs.Versions.{same_grants_eq, versioned_tree, versioned_same}
use Rattle.meaning.proofs.Shaped.{Shaped, shaped_same, shaped_form, shaped_ascending, tree_of_shaped, tree_of_grants, kid_shaped}
use Rattle.histories.proofs.Standing.{kid_node}

pub data Grows (new : ℕ) : VTree → VTree → Type 0 where
  grow_same : {t : VTree} → Grows new t t
  grow_none : {old : VTree} → Grows new old vnone
  grow_leaf : {old : VTree} {g : Grant} → Grows new old (vleaf new g)
  grow_inner : {old l r : VTree} → Grows new (kid left old) l → Grows new (kid right old) r → Grows new old (vinner new l r)

-- a node of the new tree is new or a node of the old one
pub grows_node : (new w : ℕ) (q p : Place) {old t : VTree} → Grows new old t → NodeOf w q t p → (w ≡ new) ⊎ NodeOf w q old p
grows_node new w q p grow_same n = inr n
grows_node new w q p grow_none n = absurd n
grows_node new w q p grow_leaf n = inl (sym n.0)
grows_node new w q p (grow_inner {old} a b) (inl n) = inl (sym n.0)
grows_node new w q p (grow_inner {old} a b) (inr (inl n)) =
    elim (grows_node new w q (longer left p) a n) [ inl e ↦ inl e | inr m ↦ inr (kid_node left w q old p m) ]
grows_node new w q p (grow_inner {old} a b) (inr (inr n)) =
    elim (grows_node new w q (longer right p) b n) [ inl e ↦ inl e | inr m ↦ inr (kid_node right w q old p m) ]

-- the grants below are the same ones: nothing below has changed
unchanged : (new n : ℕ) (p : Place) (old : VTree) (t : Tree) → length p + n ≡ 256 → Shaped p (unversioned old) → Shaped p t →
    same_grants (grants_in old) (grants t) ≡ true → Grows new old (versioned new old t)
unchanged new n p old t e s w h =
    let q : unversioned old ≡ t = shaped_same n p (unversioned old) t e s w (same_grants_eq (grants_in old) (grants t) h) in
    subst (Grows new old) (sym (ap (versioned new old) (sym q) ∙ versioned_same new old)) grow_same

changed : (new : ℕ) (old : VTree) (gs : List Grant) → same_grants (grants_in old) gs ≡ false → node_version new old gs ≡ new
unfolding node_version
changed new old gs h = rw h

versioned_grows : (new n : ℕ) (p : Place) (old : VTree) (t : Tree) → length p + n ≡ 256 → Shaped p (unversioned old) → Shaped p t →
    Grows new old (versioned new old t)
versioned_grows new n p old none e s w = grow_none
versioned_grows new n p old (leaf g) e s w = go (same_grants (grants_in old) (g ∷ [])) refl
  where
    go : (b : Bool) → same_grants (grants_in old) (g ∷ []) ≡ b → Grows new old (versioned new old (leaf g))
    go true h = unchanged new n p old (leaf g) e s w h
    go false h = subst (λ v. Grows new old (vleaf v g)) (sym (changed new old (g ∷ []) h)) grow_leaf
versioned_grows new zero p old (inner l r) e s w = absurd (omega arith)
versioned_grows new (suc n) p old (inner l r) e s w =
    go (same_grants (grants_in old) (grants l ++ grants r)) refl
    (versioned_grows new n (longer left p) (kid left old) l (omega (arith, length_longer left p)) (kid_shaped left p old s) w.2)
    (versioned_grows new n (longer right p) (kid right old) r (omega (arith, length_longer right p)) (kid_shaped right p old s) w.3)
  where
    go : (b : Bool) → same_grants (grants_in old) (grants l ++ grants r) ≡ b →
        Grows new (kid left old) (versioned new (kid left old) l) → Grows new (kid right old) (versioned new (kid right old) r) →
        Grows new old (versioned new old (inner l r))
    go true h a b = unchanged new (suc n) p old (inner l r) e s w h
    go false h a b =
        subst (λ v. Grows new old (vinner v (versioned new (kid left old) l) (versioned new (kid right old) r)))
        (sym (changed new old (grants l ++ grants r) h)) (grow_inner a b)

-- the root is new
same_root : (new : ℕ) (t : VTree) → Grows new t (new_root new t)
same_root new vnone = grow_none
same_root new (vleaf v x) = grow_leaf
same_root new (vinner v l r) = grow_inner grow_same grow_same

root_grows : (new : ℕ) {old t : VTree} → Grows new old t → Grows new old (new_root new t)
root_grows new (grow_same {t = t}) = same_root new t
root_grows new grow_none = grow_none
root_grows new grow_leaf = grow_leaf
root_grows new (grow_inner a b) = grow_inner a b

pub root_tree : (new : ℕ) (t : VTree) → unversioned (new_root new t) ≡ unversioned t
root_tree new vnone = refl
root_tree new (vleaf v g) = refl
root_tree new (vinner v l r) = refl

root_top : (new : ℕ) (t : VTree) → (new_root new t ≡ vnone) ⊎ (top_version (new_root new t) ≡ new)
root_top new vnone = inl refl
root_top new (vleaf v g) = inr refl
root_top new (vinner v l r) = inr refl

pub next_top : (new : ℕ) (old : VTree) (batch : List Ask) →
    (next_tree new old batch ≡ vnone) ⊎ (top_version (next_tree new old batch) ≡ new)
unfolding next_tree
next_top new old batch = root_top new (versioned new old (tree_of (with_batch batch (grants_in old))))

-- the tree after a batch
pub record Grown (new : ℕ) (old now : VTree) : Type 0 where
  pub grows : Grows new old now
  pub shaped : Shaped [] (unversioned now)

module _ (new : ℕ) (old : VTree) (s : Shaped [] (unversioned old)) (batch : List Ask) (ok : All AskForm batch) where
  after : List Grant
  after = with_batch batch (grants_in old)

  after_form : All GrantForm after
  unfolding after
  after_form = batch_form_lem batch (grants_in old) ok (shaped_form [] (unversioned old) s)

  after_ascending : Ascending after
  unfolding after
  after_ascending = ascending_batch batch (grants_in old) (shaped_ascending [] (unversioned old) s)

  -- the tree after a batch is the tree of the grants after it
  pub next_tree_lem : unversioned (next_tree new old batch) ≡ tree_of (with_batch batch (grants_in old))
  unfolding next_tree
  next_tree_lem = let t = tree_of (with_batch batch (grants_in old)) in root_tree new (versioned new old t) ∙ versioned_tree new old t

  pub next_grown : Grown new old (next_tree new old batch)
  unfolding next_tree after
  next_grown = record {
    grows = root_grows new (versioned_grows new 256 [] old (tree_of after) refl s (tree_of_shaped after after_ascending after_form));
    shaped = rw next_tree_lem (tree_of_shaped after after_ascending after_form);
  }

  -- the grants after a batch are those that it makes of the grants before
  pub next_grants : grants_in (next_tree new old batch) ≡ with_batch batch (grants_in old)
  unfolding after
  next_grants = ap grants next_tree_lem ∙ tree_of_grants after after_ascending after_form
