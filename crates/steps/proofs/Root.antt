-- The step at the root in the words of the store: it makes the next tree, places its new records, and marks exactly the nodes of the old tree
-- that the next one hasn't. So apply by steps is apply. Assumes nothing.
use Prim.Native.Nat.{ℕ, ◌<◌}
use native.Mathlib.Omega.{arith}
use mathlib.Core.Path.{◌≡◌, refl, ap, ap₂, sym, ◌∙◌, subst, fun_ext}
use mathlib.Core.Logic.{◌⊎◌, inl, inr, ◌↔◌}
use mathlib.Core.Bool.{Bool, true, false, cond, not, ◌&&◌, false≢true}
use mathlib.Core.List.{List, [], ◌++◌, map}
use lib.ListN.{length}
use borrow.Author.Tests.{eq-eqb}
use Rattle.terms.specs.Bits.{Bytes, Place, All, filter, begins}
use Rattle.terms.specs.Records.{Ask, Record, Slot, used, Store}
use Rattle.terms.specs.Form.{AskForm}
use Rattle.terms.proofs.Lists.{filter_append, all_always}
use Rattle.meaning.specs.Tree.{Tree, VTree, vnone, vleaf, vinner, unversioned, grants_in, versioned, new_root, tree_of, with_batch, next_tree}
use Rattle.meaning.specs.Store.{has_node, on_record, marked, retire_in, retire, placed, record_at, records_below, records_of, new_records, settled}
use Rattle.meaning.specs.Store.{tree_at_version}
use Rattle.meaning.specs.Sound.{NodeOf}
use Rattle.meaning.specs.Calls.{ascending, publish, apply_as}
use Rattle.meaning.proofs.Nodes.{node_top, top_or_deeper}
use Rattle.meaning.proofs.Versions.{same_test}
use Rattle.meaning.proofs.Shaped.{Shaped}
use Rattle.steps.specs.Step.{Outcome, node_at, ends_at, at_root, step_node, step_root}
use Rattle.steps.specs.Given.{Among, Older, is_new, Gives}
use Rattle.steps.specs.Writing.{is_among, mark_in, mark}
use Rattle.steps.specs.Apply.{stepped, apply_steps}
use Rattle.steps.proofs.Among.{among_left, among_right, among_append, at_node_lem, ends_at_lem, top_at}
use Rattle.steps.proofs.Marking.{among_test, tree_test}
use Rattle.steps.proofs.Steps.{step_is_definition}

-- a new root has the new version, and below it the nodes that were there
root_nodes : (new v : ℕ) (q : Place) (t : VTree) (p : Place) → NodeOf v q (new_root new t) p → (v ≡ new) ⊎ NodeOf v q t p
root_nodes new v q vnone p n = absurd n
root_nodes new v q (vleaf w g) p n = inl (sym n.0)
root_nodes new v q (vinner w l r) p (inl n) = inl (sym n.0)
root_nodes new v q (vinner w l r) p (inr n) = inr (inr n)

root_keeps : (new v : ℕ) (q : Place) (t : VTree) (p : Place) → length p < length q → NodeOf v q t p → NodeOf v q (new_root new t) p
root_keeps new v q vnone p d n = absurd n
root_keeps new v q (vleaf w g) p d n = let e = ap length n.1 in absurd (omega arith)
root_keeps new v q (vinner w l r) p d (inl n) = let e = ap length n.1 in absurd (omega arith)
root_keeps new v q (vinner w l r) p d (inr n) = inr n

root_new : (new v : ℕ) (t : VTree) (p : Place) → NodeOf v p (new_root new t) p → v ≡ new
root_new new v vnone p n = absurd n
root_new new v (vleaf w g) p n = sym n.0
root_new new v (vinner w l r) p n = sym (node_top v (vinner new l r) p n).1

-- one test and not another
both : (a b : Bool) → a ≡ true → (b ≡ true → ⊥) → a && not b ≡ true
both true true e f = absurd (f refl)
both true false e f = refl
both false b e f = absurd (false≢true e)

only : (a b : Bool) → a && not b ≡ true → (a ≡ true) × (b ≡ true → ⊥)
only true true h = absurd (false≢true h)
only true false h = (refl, false≢true)
only false b h = absurd (false≢true h)

module _ (leaf_hash inner_hash : Bytes → Bytes → Bytes) where
  root_below : (new : ℕ) (p : Place) (t : VTree) → records_below leaf_hash inner_hash p (new_root new t) ≡ records_below leaf_hash inner_hash p t
  root_below new p vnone = refl
  root_below new p (vleaf v g) = refl
  root_below new p (vinner v l r) = refl

  root_record : (new : ℕ) (p : Place) (t : VTree) →
      filter (is_new new) (record_at leaf_hash inner_hash p (new_root new t)) ≡ record_at leaf_hash inner_hash p (new_root new t)
  root_record new p vnone = refl
  root_record new p (vleaf v g) = rw (eq-eqb new new refl)
  root_record new p (vinner v l r) = rw (eq-eqb new new refl)

  -- an outcome at the empty place
  module _ (new : ℕ) (old : VTree) (now : Tree) (o : Outcome) (older : Older new [] old) (given : Gives leaf_hash inner_hash new [] old now o) where
    abbrev next : VTree
    next = new_root new (versioned new old now)

    root_node : new_root new o.node ≡ next
    root_node = ap (new_root new) given.node_is

    root_fresh : (at_root leaf_hash inner_hash new old o).fresh ≡ new_records leaf_hash inner_hash new next
    unfolding new_records records_of
    root_fresh =
        let t = new_root new o.node in
        ap₂ ◌++◌ (given.fresh_is ∙ ap (filter (is_new new)) (sym (root_below new [] o.node))) (sym (root_record new [] o.node))
        ∙ sym (filter_append (is_new new) (records_below leaf_hash inner_hash [] t) (record_at leaf_hash inner_hash [] t))
        ∙ ap (λ u. filter (is_new new) (records_below leaf_hash inner_hash [] u ++ record_at leaf_hash inner_hash [] u)) root_node

    root_ends : (v : ℕ) (q : Place) → NodeOf v q old [] → (◌≡◌ {A = Place} [] q) ⊎ (NodeOf v q o.node [] → ⊥) →
        Among v q (o.retired ++ node_at [] old)
    root_ends v q n (inl e) =
        let here = top_at v old [] (subst (λ u. NodeOf v u old []) (sym e) n) in
        among_right v q o.retired (node_at [] old) (subst (λ u. Among v u (node_at [] old)) e here)
    root_ends v q n (inr f) = elim (among_append v q o.retired (ends_at o.change [] old) ((given.retired_is v q).1 (n, f))) [
      | inl k ↦ among_left v q o.retired (node_at [] old) k
      | inr k ↦ among_right v q o.retired (node_at [] old) (ends_at_lem v q o.change [] old k)
    ]

    root_retired : (v : ℕ) (q : Place) → Among v q (o.retired ++ node_at [] old) ↔ (NodeOf v q old [] × (NodeOf v q next [] → ⊥))
    root_retired v q =
        let t = new_root new o.node in
        rw (← root_node) (
          λ h. elim (among_append v q o.retired (node_at [] old) h) [
            | inl k ↦
                let m = (given.retired_is v q).0 (among_left v q o.retired (ends_at o.change [] old) k) in
                (m.0, λ i. elim (root_nodes new v q o.node [] i) [ inl e ↦ let l = older v q m.0 in omega arith | inr j ↦ m.1 j ])
            | inr k ↦
                let m = at_node_lem v q old [] k in
                let l = older v q m.0 in
                (m.0, λ i. let e = root_new new v o.node [] (subst (λ u. NodeOf v u t []) (sym m.1) i) in omega arith)
          ],
          λ n. root_ends v q n.0 (elim (top_or_deeper v q old [] n.0) [
            | inl e ↦ inl e
            | inr d ↦ inr (λ i. n.1 (root_keeps new v q o.node [] d i))
          ]),
        )

    -- what is marked is what `retire` marks
    root_test : (r : Record) →
        is_among r (o.retired ++ node_at [] old)
        ≡ has_node r (records_of leaf_hash inner_hash old) && not (has_node r (records_of leaf_hash inner_hash next))
    root_test r =
        let was = has_node r (records_of leaf_hash inner_hash old) in
        let is = has_node r (records_of leaf_hash inner_hash next) in
        let among = among_test r (o.retired ++ node_at [] old) in
        let ends = root_retired r.version r.place in
        let in-old = tree_test leaf_hash inner_hash r old in
        let in-next = tree_test leaf_hash inner_hash r next in
        same_test (is_among r (o.retired ++ node_at [] old)) (was && not is)
        (λ h. let m = ends.0 (among.0 h) in both was is (in-old.1 m.0) (λ k. m.1 (in-next.0 k)))
        (λ h. let m = only was is h in among.1 (ends.1 (in-old.0 m.0, λ k. m.1 (in-next.1 k))))

    root_marks : (s : List Slot) →
        mark new (o.retired ++ node_at [] old) s ≡ retire new (records_of leaf_hash inner_hash old) (records_of leaf_hash inner_hash next) s
    unfolding mark_in retire_in
    root_marks s = ap (λ f. map (on_record f) s) (fun_ext λ r. ap (λ b. used (cond b (marked new r) r)) (root_test r))

  -- a batch on a whole tree
  module _ (new : ℕ) (old : VTree) (batch : List Ask) (shaped : Shaped [] (unversioned old)) (older : Older new [] old)
      (form : All AskForm batch) (up : ascending batch ≡ true) where
    abbrev now : Tree
    now = tree_of (with_batch batch (grants_in old))

    abbrev top : Outcome
    top = step_node leaf_hash inner_hash new 256 [] old batch

    top_gives : Gives leaf_hash inner_hash new [] old now top
    unfolding tree_of begins
    top_gives = step_is_definition leaf_hash inner_hash new 256 [] old batch refl shaped older form (all_always _ batch (λ a. refl)) up

    -- the step makes the next tree
    pub step_makes_next_tree : (step_root leaf_hash inner_hash new old batch).node ≡ next_tree new old batch
    unfolding step_root next_tree
    step_makes_next_tree = root_node new old now top older top_gives

    -- it places the new records, in their order
    pub step_places_new_records : (step_root leaf_hash inner_hash new old batch).fresh ≡ new_records leaf_hash inner_hash new (next_tree new old batch)
    unfolding step_root next_tree
    step_places_new_records = root_fresh new old now top older top_gives

    -- what it names as ended are the nodes of the old tree that aren't in the new one
    pub step_ends_what_is_gone : (v : ℕ) (q : Place) →
        Among v q (step_root leaf_hash inner_hash new old batch).retired ↔ (NodeOf v q old [] × (NodeOf v q (next_tree new old batch) [] → ⊥))
    unfolding step_root next_tree
    step_ends_what_is_gone = root_retired new old now top older top_gives

    -- and their marks are those of retirement
    pub step_marks_what_retires : (s : List Slot) →
        mark new (step_root leaf_hash inner_hash new old batch).retired s
        ≡ retire new (records_of leaf_hash inner_hash old) (records_of leaf_hash inner_hash (next_tree new old batch)) s
    unfolding step_root next_tree
    step_marks_what_retires = root_marks new old now top older top_gives

  -- a batch on a store whose latest tree is that of its grants, for a version above all of it
  module _ (new : ℕ) (batch : List Ask) (st : Store) (shaped : Shaped [] (unversioned (tree_at_version st st.latest)))
      (older : Older new [] (tree_at_version st st.latest)) (form : All AskForm batch) (up : ascending batch ≡ true) where
    abbrev latest_tree : VTree
    latest_tree = tree_at_version st st.latest

    -- the steps leave the store that document 01 defines
    pub steps_settle : stepped leaf_hash inner_hash new batch st ≡ settled leaf_hash inner_hash new latest_tree (next_tree new latest_tree batch) st
    unfolding stepped settled
    steps_settle =
        ap₂ (λ rs slots. record { form = st.form; oldest = st.oldest; latest = new; slots = placed rs slots })
        (step_places_new_records new latest_tree batch shaped older form up)
        (step_marks_what_retires new latest_tree batch shaped older form up st.slots)

    -- apply by steps is apply
    pub apply_by_steps : apply_steps leaf_hash inner_hash new batch st ≡ apply_as leaf_hash inner_hash new batch st
    unfolding apply_steps apply_as publish
    apply_by_steps =
        rw (
          step_makes_next_tree new latest_tree batch shaped older form up,
          step_places_new_records new latest_tree batch shaped older form up,
          steps_settle,
        )
