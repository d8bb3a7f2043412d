-- A run's store has the trees of the run, whatever the setting: each node of them is found with what it held. Assumes nothing.
use Prim.Native.Nat.{ℕ, zero, suc, ◌+◌, ◌≤◌}
use native.Mathlib.Omega.{arith}
use mathlib.Core.Path.{◌≡◌, refl, ap, ap₂, sym, ◌∙◌, subst}
use mathlib.Core.Logic.{inl, inr}
use mathlib.Core.Bool.{true, false, cond}
use mathlib.Core.List.{List, [], ◌∷◌}
use mathlib.Core.Option.{Option, none, some}
use borrow.Author.Tests.{ne_eqb}
use Rattle.terms.specs.Bits.{Side, left, right, Place, longer}
use Rattle.terms.specs.Records.{Body, leaf_body, inner_body, Record, Slot}
use Rattle.meaning.specs.Tree.{VTree, vnone, vinner}
use Rattle.meaning.specs.Store.{find, root_of, marked, tree_below, tree_found, tree_from, tree_at_version}
use Rattle.meaning.specs.Sound.{NodeOf}
use Rattle.histories.proofs.Slots.{find_has}
use Rattle.histories.proofs.Writing.{contents}
use Rattle.histories.proofs.Standing.{Alike}
use Rattle.rescue_rules.specs.Rescue.{source_root, source_tree, in_run, taken, run_store}
use Rattle.rescue_rules.specs.Joining.{source}
use Rattle.rescue_laws.proofs.Roots.{root_at_lem}
use Rattle.rescue_laws.proofs.Taken.{Nodes, Setting, set_in, contents_set, find_taken}
use Rattle.rescue_laws.proofs.Nodes.{node_in_run}

-- the nodes of a tree are in a set
abbrev Within : Nodes → VTree → Place → Type 0
Within nodes t p = (w : ℕ) (q : Place) → NodeOf w q t p → nodes w q ≡ true

body_top : (w : ℕ) (b : Body) (below : Side → ℕ → VTree) (p : Place) → NodeOf w p (tree_below w b below) p
body_top w (leaf_body k x) below p = (refl, refl)
body_top w (inner_body l r) below p = inl (refl, refl)

module _ (nodes : Nodes) (set : Setting) (s : List Slot) where
  -- a node of the set is found with what it held
  pub found_taken : (w : ℕ) (q : Place) → nodes w q ≡ true → find w q (taken nodes set s) ≡ set_in set (find w q s)
  found_taken w q e = find_taken nodes set w q s ∙ ap (λ b. cond b (set_in set (find w q s)) none) e

  -- what is found at the top of a tree whose nodes are in the set
  top_taken : (w : ℕ) (p : Place) (below : Side → ℕ → VTree) → Within nodes (tree_found (find w p s) below) p →
      find w p (taken nodes set s) ≡ set_in set (find w p s)
  top_taken w p below h = go (find w p s) refl h
    where
      go : (o : Option Record) → find w p s ≡ o → Within nodes (tree_found o below) p → find w p (taken nodes set s) ≡ set_in set (find w p s)
      go none e k = find_taken nodes set w p s ∙ ap (λ o. cond (nodes w p) (set_in set o) none) e ∙ elim (nodes w p) as (λ b. ◌≡◌ {A = Option Record} (cond b none none) none) [ true ↦ refl | false ↦ refl ] ∙ sym (ap (set_in set) e)
      go (some r) e k =
          let v = (find_has w p s r e).1 in
          found_taken w p (sym (ap (λ x. nodes x p) v) ∙ k r.version p (body_top r.version r.body below p))

  -- the tree below what is found
  below_taken : (o : Option Record) (p : Place) (below below' : Side → ℕ → VTree) →
      ((b : Side) (w : ℕ) → Within nodes (below b w) (longer b p) → below' b w ≡ below b w) →
      Within nodes (tree_found o below) p → tree_found (set_in set o) below' ≡ tree_found o below
  unfolding marked
  below_taken none p below below' f h = refl
  below_taken (some r) p below below' f h = go r.body h
    where
      go : (c : Body) → Within nodes (tree_below r.version c below) p → tree_below r.version c below' ≡ tree_below r.version c below
      go (leaf_body k x) g = refl
      go (inner_body c d) g =
          ap₂ (vinner r.version) (f left c.version (λ w q m. g w q (inr (inl m)))) (f right d.version (λ w q m. g w q (inr (inr m))))

  found_tree : (w : ℕ) (p : Place) (below below' : Side → ℕ → VTree) →
      ((b : Side) (w : ℕ) → Within nodes (below b w) (longer b p) → below' b w ≡ below b w) →
      Within nodes (tree_found (find w p s) below) p → tree_found (find w p (taken nodes set s)) below' ≡ tree_found (find w p s) below
  found_tree w p below below' f h =
      ap (λ o. tree_found o below') (top_taken w p below h) ∙ below_taken (find w p s) p below below' f h

  tree_taken : (n w : ℕ) (p : Place) → Within nodes (tree_from n s w p) p → tree_from n (taken nodes set s) w p ≡ tree_from n s w p
  tree_taken zero zero p h = refl
  tree_taken zero (suc w) p h =
      let e = ne_eqb (suc w) 0 (λ z. omega arith) in
      rw e (found_tree (suc w) p (λ b x. vnone) (λ b x. vnone) (λ b x k. refl) (rw e at h))
  tree_taken (suc n) zero p h = refl
  tree_taken (suc n) (suc w) p h =
      let e = ne_eqb (suc w) 0 (λ z. omega arith) in
      rw e (found_tree (suc w) p (λ b x. tree_from n s x (longer b p)) (λ b x. tree_from n (taken nodes set s) x (longer b p))
      (λ b x k. tree_taken n x (longer b p) k) (rw e at h))

module _ (s : List Slot) (f n : ℕ) (set : Setting) (v : ℕ) (low : f ≤ v) (high : v ≤ f + n) where
  nodes_in_run : Within (in_run s f n) (source_tree s v) []
  nodes_in_run w q m = node_in_run s f n v w q low high m

  -- a version of the store whose root is the record of v's root has v's tree
  pub root_tree : (x : ℕ) (r : Record) → source_root s v ≡ some r → root_of (run_store s f n set) x ≡ set_in set (some r) →
      tree_at_version (run_store s f n set) x ≡ source_tree s v
  unfolding tree_at_version run_store source_tree longer
  root_tree x r e g =
      ap (λ o. tree_found o (λ b w. tree_from 255 (taken (in_run s f n) set s) w (b ∷ []))) g
      ∙ below_taken (in_run s f n) set s (some r) [] (λ b w. tree_from 255 s w (b ∷ [])) (λ b w. tree_from 255 (taken (in_run s f n) set s) w (b ∷ []))
      (λ b w k. tree_taken (in_run s f n) set s 255 w (b ∷ []) k) (subst (λ o. Within (in_run s f n) (tree_found o (λ b w. tree_from 255 s w (b ∷ []))) []) e nodes_in_run)
      ∙ ap (λ o. tree_found o (λ b w. tree_from 255 s w (b ∷ []))) (sym e)

  -- the root is a node of its tree
  pub root_node : (r : Record) → source_root s v ≡ some r → NodeOf r.version [] (source_tree s v) []
  unfolding source_tree
  root_node r e = subst (λ o. NodeOf r.version [] (tree_found o (λ b w. tree_from 255 s w (b ∷ []))) []) (sym e) (body_top r.version r.body _ [])

  -- and its record is in the run's store
  pub root_taken : (r : Record) → source_root s v ≡ some r →
      find r.version [] (run_store s f n set).slots ≡ some (marked (set r.version r.place) r)
  unfolding run_store
  root_taken r e = found_taken (in_run s f n) set s r.version [] (nodes_in_run r.version [] (root_node r e)) ∙ ap (set_in set) (root_at_lem s v r e)

  same_contents : (w : ℕ) (q : Place) → NodeOf w q (source_tree s v) [] →
      contents (find w q (taken (in_run s f n) set s)) ≡ contents (find w q s)
  same_contents w q m =
      ap contents (found_taken (in_run s f n) set s w q (nodes_in_run w q m)) ∙ contents_set set (find w q s)

  pub alike_run : Alike (source s) (run_store s f n set) (source_tree s v) []
  unfolding Alike run_store
  alike_run w q m = same_contents w q m

  pub alike_source : Alike (run_store s f n set) (source s) (source_tree s v) []
  unfolding Alike run_store
  alike_source w q m = sym (same_contents w q m)
