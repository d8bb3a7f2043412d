-- The steps over lent memory are those of the definition: what is true where a step is taken, at no node and at a leaf. Assumes nothing.
use Prim.Native.Nat.{ℕ, zero, suc, ◌+◌, ◌-◌, ◌<◌, ◌≤◌}
use native.Mathlib.Omega.{arith}
use mathlib.Core.Path.{◌≡◌, refl, ap, sym, ◌∙◌, subst}
use mathlib.Core.Logic.{⊎_elim}
use mathlib.Core.Bool.{Bool, true, false, true≢false}
use mathlib.Core.List.{List, [], ◌∷◌}
use mathlib.Core.Option.{none}
use lib.ListN.{length}
use types.Run.{OneOf}
use denote.Enum.Declared.{tag_of}
use Rattle.terms.specs.Bits.{Bytes, Side, Place, All, longer, left, right, begins}
use Rattle.terms.specs.Records.{Grant, grant, Ask, ask_key}
use Rattle.terms.specs.Form.{top32, AskForm, RecordForm}
use Rattle.meaning.specs.Tree.{Tree, VTree, vnone, vleaf, vinner, unversioned, grants_in, leaves}
use Rattle.meaning.specs.Runs.{run}
use Rattle.meaning.specs.Calls.{ascending}
use Rattle.meaning.proofs.Leaves.{few_leaves}
use Rattle.meaning.proofs.Shaped.{Shaped}
use Rattle.histories.proofs.Trees.{stands_shaped}
use Rattle.hash.specs.declared.Hash.{Hash}
use Rattle.hash.specs.Hash.{hash_bytes}
use Rattle.nodehash.specs.Node.{leaf_hash, inner_hash}
use Rattle.place.specs.declared.Place as place
use Rattle.place.specs.Place.{place_of}
use Rattle.place.proofs.Places.{proper_count}
use Rattle.layout.specs.Sizes.{most_slots}
use Rattle.layout.specs.Stores.{store_of}
use Rattle.std.specs.declared.option.Option as option
use Rattle.std.specs.Prelude.{Some, None}
use Rattle.batch.specs.Sizes.{most_records}
use Rattle.batch.specs.Batch.{asks}
use Rattle.batch.proofs.Records.{asks_whole, length_asks}
use Rattle.steps.specs.Step as step
use Rattle.steps.specs.Given.{Gives}
use Rattle.steps.proofs.Fitting.{Fits, fits_shaped}
use Rattle.steps.proofs.Steps.{after, step_gives, child_gives, shaped_fits}
use Rattle.steps.proofs.Idle.{idle_run_is_unchanged}
use Rattle.steps.proofs.Leaves.{step_leaves}
use Rattle.steps.proofs.Writing.{AllNew, AllOlder, given_new, given_older}
use Rattle.apply_place.specs.declared.Node as node
use Rattle.apply_place.specs.declared.Node.TheVariants as N
use Rattle.apply_place.specs.contracts.Node as node-type
use Rattle.apply_place.proofs.Changing.{stored_accepted}
use Rattle.apply_place.specs.Reach.{Reaches}
use Rattle.apply_place.proofs.Reaching.{reaches_none}
use Rattle.apply_outcome.specs.declared.Outcome as declared
use Rattle.apply_outcome.specs.Outcomes.{NodeSays, change_says, updated_says, Did}
use Rattle.apply_outcome.proofs.Saying.{says_either}
use Rattle.apply_outcome.proofs.Forms.{Numbered, given_shaped, given_numbered, given_form}
use Rattle.apply_grow.specs.Growing.{Grows}
use Rattle.apply_grow.proofs.Growing.{written_nothing}
use Rattle.apply_leaf.specs.Leaf.{AtLeaf}
use Rattle.apply_guess.specs.Guess.{Once}
use Rattle.apply_read.specs.Held.{Used, HoldsNode, NodeHeld}
use Rattle.apply_read.specs.Standing.{tree_here, is_inner, Unchanged}
use Rattle.apply_read.proofs.Standing.{node_none, slot_used, node_there}
use Rattle.apply_inner.proofs.Standing.{stored_formed, stands_numbered, top_older}
use Rattle.apply_tip.specs.Stepping.{Here, AtTip, at_node, at_child}
use Rattle.apply_tip.proofs.Kept.{unchanged_is}

-- the step at a node, by its case
module _ (new : ℕ) (p : Place) (as' : List Ask) where
  abbrev pub stepping : ℕ → VTree → step.Outcome
  stepping n t = step.step_node leaf_hash inner_hash new n p t as'

  step_none : (n : ℕ) → stepping n vnone ≡ step.grow leaf_hash inner_hash new n p none as'
  unfolding step.step_node
  step_none zero = refl
  step_none (suc n) = refl

  step_leaf_lem : (n v : ℕ) (g : Grant) → stepping n (vleaf v g) ≡ step.step_leaf leaf_hash inner_hash new n p v g as'
  unfolding step.step_node
  step_leaf_lem zero v g = refl
  step_leaf_lem (suc n) v g = refl

  -- the step at the child on a side
  abbrev pub side_step : ℕ → Side → VTree → step.Outcome
  side_step n b t = step.step_child (step.step_node leaf_hash inner_hash new n) (longer b p) t (run (length p) b as')

  pub step_inner_lem : (n v : ℕ) (l r : VTree) →
      stepping (suc n) (vinner v l r) ≡ step.inner_by leaf_hash inner_hash new p v l r (side_step n left l) (side_step n right r)
  unfolding step.step_node step.step_inner
  step_inner_lem n v l r = refl

-- where a step is taken
module _ {new : ℕ} {writes : Bool} {from : ℕ} {s : Bytes} {p : place.Place} {v : ℕ} {part : Bytes} (w : Here new writes from s p v part) where
  abbrev tree : VTree
  tree = tree_here s p v

  long : length (place_of p) + (256 - p.count) ≡ 256
  long = let h = w.standing.proper.short in omega (arith, proper_count p w.standing.proper)

  pub shaped : Shaped (place_of p) (unversioned tree)
  shaped = stands_shaped leaf_hash inner_hash (store_of s) (stored_formed w.standing.stored) (place_of p) tree w.standing.stands

  pub numbered : Numbered tree
  numbered = stands_numbered (store_of s) (stored_formed w.standing.stored) (place_of p) tree w.standing.stands

  fits : Fits (place_of p) (grants_in tree) (asks part)
  fits = shaped_fits (place_of p) (unversioned tree) (asks part) shaped (asks_whole part w.run.bytes) w.run.under w.run.order

  abbrev later : Tree
  later = after (256 - p.count) (place_of p) tree (asks part)

  later_shaped : Shaped (place_of p) later
  later_shaped = fits_shaped (256 - p.count) (place_of p) (grants_in tree) (asks part) long fits

  given : Gives leaf_hash inner_hash new (place_of p) tree later (at_child new s p v part)
  unfolding at_child
  given =
      child_gives leaf_hash inner_hash new (256 - p.count) (step_gives leaf_hash inner_hash new (256 - p.count)) (place_of p) tree (asks part)
      long shaped w.older fits

  pub child_new : AllNew new (at_child new s p v part).fresh
  child_new = given_new leaf_hash inner_hash new (place_of p) tree later (at_child new s p v part) given

  pub child_ends : AllOlder new (at_child new s p v part).retired
  child_ends = given_older leaf_hash inner_hash new (place_of p) tree later (at_child new s p v part) given w.older

  pub child_shaped : new ≤ top32 → Shaped (place_of p) (unversioned (at_child new s p v part).node)
  child_shaped t = given_shaped new (place_of p) tree later (at_child new s p v part) given (w.number, t) numbered later_shaped

  pub child_numbered : new ≤ top32 → Numbered (at_child new s p v part).node
  child_numbered t = given_numbered new (place_of p) tree later (at_child new s p v part) given (w.number, t) numbered later_shaped

  pub child_form : new ≤ top32 → (r : declared.Outcome) → NodeSays writes r.node (at_child new s p v part).node → writes ≡ true →
      All RecordForm (updated_says (place_of p) r)
  child_form t r h =
      given_form new (place_of p) tree later (at_child new s p v part) given (w.number, t) numbered later_shaped writes r h

  -- an unchanged child is the tree that was there
  pub child_kept : (at_child new s p v part).change ≡ step.unchanged → (at_child new s p v part).node ≡ tree
  child_kept e = unchanged_is leaf_hash inner_hash new (256 - p.count) (place_of p) tree later (at_child new s p v part) given long shaped later_shaped e

  -- without a run the step at the node would change nothing either
  pub child_is_node : at_child new s p v part ≡ at_node new s p v part
  unfolding at_node at_child
  child_is_node = go (asks part) fits (asks_whole part w.run.bytes) w.run.under w.run.order
    where
      go : (as' : List Ask) → Fits (place_of p) (grants_in tree) as' → All AskForm as' → All (λ a. begins (place_of p) (ask_key a) ≡ true) as' → ascending as' ≡ true →
          step.step_child (step.step_node leaf_hash inner_hash new (256 - p.count)) (place_of p) tree as'
          ≡ step.step_node leaf_hash inner_hash new (256 - p.count) (place_of p) tree as'
      go [] f form under up =
          sym (idle_run_is_unchanged leaf_hash inner_hash new (256 - p.count) (place_of p) tree [] long shaped w.older form under up tt)
      go (a ∷ as') f form under up = refl

  -- what it leaves has no more leaves than slots and asks
  pub child_few : leaves (at_child new s p v part).node ≤ most_slots + most_records
  unfolding at_node
  child_few =
      let a = (stored_accepted w.standing.stored).fits in
      subst (λ o. leaves o.node ≤ most_slots + most_records) (sym child_is_node)
      (omega (
        arith,
        a,
        step_leaves leaf_hash inner_hash new (256 - p.count) (place_of p) tree (asks part),
        length_asks part,
        w.run.few,
        few_leaves leaf_hash inner_hash (store_of s) (place_of p) tree w.standing.stands,
      ))

  -- the node is there once
  pub is_once : Once s v p
  is_once = record {
    stored = w.standing.stored;
    proper = w.standing.proper;
    single = w.single v (place_of p) (omega (arith, top_older new (place_of p) tree w.number w.older, w.standing.top));
  }

  -- without a run
  pub child_stays : {r : declared.Outcome} → length part ≡ 0 → Unchanged from tree r → Did new writes from s s (at_child new s p v part) r
  unfolding at_child
  child_stays {r} e h =
      subst (λ o. Did new writes from s s o r) (sym (no_run (asks part) (omega (arith, length_asks part))))
      (record {
        change = ap change_says h.change;
        node = says_either writes r.node tree h.node;
        reach = subst (Reaches writes from 0 (store_of s).slots) (sym h.reach) (reaches_none writes refl w.starts);
        bytes = written_nothing writes new step.unchanged tree w.standing.stored;
      })
    where
      no_run : (as' : List Ask) → length as' ≡ 0 →
          step.step_child (step.step_node leaf_hash inner_hash new (256 - p.count)) (place_of p) tree as' ≡ step.outcome step.unchanged tree
      no_run [] e = refl
      no_run (a ∷ as') e = absurd (omega arith)

  -- with one
  pub child_steps : {s' : Bytes} {r : declared.Outcome} → Did new writes from s s' (at_node new s p v part) r → Did new writes from s s' (at_child new s p v part) r
  child_steps {s'} {r} d = subst (λ o. Did new writes from s s' o r) (sym child_is_node) d

  -- no node there
  pub node_grows : Grows new writes from s p None part
  node_grows = record {
    stored = w.standing.stored;
    starts = w.starts;
    number = w.number;
    proper = w.standing.proper;
    run = w.run;
    stays = tt;
  }

  pub grown_did : {s' : Bytes} {r : declared.Outcome} → tree ≡ vnone →
      Did new writes from s s' (step.grow leaf_hash inner_hash new (256 - p.count) (place_of p) none (asks part)) r → Did new writes from s s' (at_node new s p v part) r
  unfolding at_node
  grown_did {s'} {r} t d =
      subst (λ o. Did new writes from s s' o r)
      (sym (ap (stepping new (place_of p) (asks part) (256 - p.count)) t ∙ step_none new (place_of p) (asks part) (256 - p.count))) d

  -- a leaf there
  module _ {n : node.Node} {u : ℕ} {k x : Hash} (e : n ≡ N.Leaf u k x) (h : NodeSays true n tree) where
    its_leaf : tree ≡ vleaf u (grant (hash_bytes k) (hash_bytes x))
    its_leaf = subst (λ m. NodeSays true m tree) e h

    pub node_leaf : AtLeaf new writes from s p k part
    node_leaf = record {
      stored = w.standing.stored;
      starts = w.starts;
      number = w.number;
      proper = w.standing.proper;
      run = w.run;
      begun = (subst (λ y. Shaped (place_of p) (unversioned y)) its_leaf shaped).0;
    }

    pub leaf_did : {s' : Bytes} {r : declared.Outcome} →
        Did new writes from s s' (step.step_leaf leaf_hash inner_hash new (256 - p.count) (place_of p) u (grant (hash_bytes k) (hash_bytes x)) (asks part)) r →
        Did new writes from s s' (at_node new s p v part) r
    unfolding at_node
    leaf_did {s'} {r} d =
        subst (λ o. Did new writes from s s' o r)
        (sym (ap (stepping new (place_of p) (asks part) (256 - p.count)) its_leaf
        ∙ step_leaf_lem new (place_of p) (asks part) (256 - p.count) u (grant (hash_bytes k) (hash_bytes x)))) d

-- where no inner node stands
module _ {new : ℕ} {writes : Bool} {from : ℕ} {s : Bytes} {p : place.Place} {v : ℕ} {o : option.Option ℕ} {part : Bytes}
    (w : AtTip new writes from s p v o part) where
  pub none_there : o ≡ None → tree_here s p v ≡ vnone
  none_there e = node_none w.here.standing w.there e

  module _ {i : ℕ} (e : o ≡ Some i) where
    pub tip_used : Used s i
    tip_used = slot_used w.here.standing w.there e

    pub tip_node : (n : node.Node) → NodeHeld s i n → NodeSays true n (tree_here s p v)
    tip_node n h = node_there w.here.standing w.there e n h

    pub tip_leaf : {A : Type 0} (n : node.Node) → OneOf (0 ∷ 2 ∷ []) (tag_of node-type.the_type n) → NodeHeld s i n → A
    tip_leaf n k h = go n k (h tip_used.held tip_used.slot) (tip_node n h)
      where
        go : {A : Type 0} (m : node.Node) → OneOf (0 ∷ 2 ∷ []) (tag_of node-type.the_type m) → HoldsNode m tip_used.held → NodeSays true m (tree_here s p v) → A
        go N.Nothing k b e = absurd b
        go (N.Leaf u x y) k b e = absurd (⊎_elim (λ e. omega arith) (λ e. omega arith) k)
        go (N.Inner u x y i j) k b e = absurd (true≢false (sym (ap is_inner e.2) ∙ w.tip))
