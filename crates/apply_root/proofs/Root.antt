-- The step at the root over lent memory is that of the definition: the step at the node there, then the mark of the old root, then the new
-- root. Assumes nothing.
use Prim.Native.Nat.{ℕ, ◌+◌, ◌-◌, ◌≤◌}
use native.Mathlib.Omega.{arith}
use mathlib.Core.Path.{◌≡◌, refl, ap, ap₂, sym, ◌∙◌, subst}
use mathlib.Core.Bool.{Bool, true, false, false≢true}
use mathlib.Core.List.{List, [], ◌++◌}
use lib.ListN.{length, length-append}
use Rattle.terms.specs.Bits.{Bytes, All, Place}
use Rattle.terms.specs.Records.{Record, Slot}
use Rattle.terms.specs.Form.{top32, RecordForm}
use Rattle.meaning.specs.Tree.{VTree, vnone, vleaf, vinner, unversioned, new_root}
use Rattle.meaning.specs.Store.{placed, record_at}
use Rattle.meaning.proofs.Shaped.{Shaped}
use Rattle.histories.proofs.Growing.{root_tree}
use Rattle.nodehash.specs.Node.{leaf_hash, inner_hash}
use Rattle.place.specs.declared.Place as place
use Rattle.place.specs.Place.{place_of}
use Rattle.place.proofs.Places.{proper_count}
use Rattle.layout.specs.Stores.{store_of}
use Rattle.batch.specs.Batch.{asks}
use Rattle.steps.specs.Step as step
use Rattle.steps.specs.Given.{Older}
use Rattle.steps.specs.Writing.{mark}
use Rattle.steps.proofs.Among.{at_node_lem}
use Rattle.steps.proofs.Writing.{AllNew, AllOlder, two_turns}
use Rattle.apply_place.specs.declared.Node as node
use Rattle.apply_place.specs.declared.Node.TheVariants as N
use Rattle.apply_place.specs.Placing.{Changed, when_writes, record_says}
use Rattle.apply_place.specs.Reach.{Places, Placed}
use Rattle.apply_place.proofs.Reaching.{starts_marked, reaches_then, reaches_as}
use Rattle.apply_place.proofs.Changing.{changed_as, changed_stored, changed_then}
use Rattle.apply_outcome.specs.declared.Change as change
use Rattle.apply_outcome.specs.declared.Change.TheVariants.{Updated, Deleted}
use Rattle.apply_outcome.specs.declared.Outcome as declared
use Rattle.apply_outcome.specs.Outcomes.{NodeSays, updated_says, Did}
use Rattle.apply_outcome.proofs.Saying.{says_record, says_many, placed_as}
use Rattle.apply_outcome.proofs.Forms.{Number, Numbered, says_form}
use Rattle.apply_guess.specs.Guess.{Once}
use Rattle.apply_end.specs.Ending.{child_nodes, ends_says}
use Rattle.apply_end.proofs.Ending.{top_nodes}
use Rattle.apply_read.specs.Standing.{tree_here}
use Rattle.apply_tip.specs.Stepping.{at_node, at_child}
use Rattle.apply_inner.proofs.Standing.{top_older, single_after}
use Rattle.apply_tip.proofs.Stepping.{numbered, child_is_node, child_new, child_shaped, child_numbered}
use Rattle.apply_root.specs.Root.{new_root_says, HereRoot}

-- the new root by value is the top of the new tree
pub says_root : (w : Bool) (new : ℕ) (n : node.Node) (t : VTree) → NodeSays w n t → NodeSays w (new_root_says new n) (new_root new t)
says_root w new N.Nothing t e = rw e refl
says_root w new (N.Leaf v k x) t e = rw e refl
says_root w new (N.Inner v l r i j) t (a, b, e, x, y, z) = (a, b, ap (new_root new) e, x, y, z)

root_numbered : (new : ℕ) (t : VTree) → Number new → Numbered t → Numbered (new_root new t)
root_numbered new vnone n m = tt
root_numbered new (vleaf v g) n m = n
root_numbered new (vinner v l r) n m = (n, m.1, m.2)

-- first what is below the root, then the root
in_turn_lem : (w : Bool) (new : ℕ) (xs ys : List Record) (ms ns : List step.Node) (s : List Slot) → AllNew new xs → AllOlder new ns →
    when_writes w (placed ys) (when_writes w (mark new ns) (when_writes w (λ u. placed xs (mark new ms u)) s))
    ≡ when_writes w (λ u. placed (xs ++ ys) (mark new (ms ++ ns) u)) s
in_turn_lem true new xs ys ms ns s f o = sym (two_turns new xs ys ms ns s f o)
in_turn_lem false new xs ys ms ns s f o = refl

module _ {new : ℕ} {writes : Bool} {s : Bytes} {p : place.Place} {v : ℕ} {part : Bytes} (w : HereRoot new writes s p v part) where
  abbrev tree : VTree
  tree = tree_here s p v

  abbrev below : step.Outcome
  below = step.step_node leaf_hash inner_hash new 256 [] tree (asks part)

  node_is : at_node new s p v part ≡ below
  unfolding at_node
  node_is =
      let n : 256 - p.count ≡ 256 = omega (arith, proper_count p w.here.standing.proper, ap length w.top) in
      rw (n, w.top)

  below_is : at_child new s p v part ≡ below
  below_is = child_is_node w.here ∙ node_is

  below_new : AllNew new below.fresh
  below_new = subst (λ (o : step.Outcome). AllNew new o.fresh) below_is (child_new w.here)

  module _ {s₁ : Bytes} {r : declared.Outcome} (x : Did new writes 0 s s₁ (at_child new s p v part) r) where
    -- the old root is one record at most
    pub root_once : Once s₁ v p
    root_once = record {
      stored = changed_stored x.bytes;
      proper = w.here.standing.proper;
      single =
          single_after new (at_child new s p v part) (child_new w.here) writes x.bytes w.here.single v (place_of p)
          (omega (arith, top_older new (place_of p) tree w.here.number w.here.older, w.here.standing.top));
    }

    done : Did new writes 0 s s₁ below r
    done = subst (λ o. Did new writes 0 s s₁ o r) below_is x

    pub root_says_lem : NodeSays writes (new_root_says new r.node) (new_root new below.node)
    root_says_lem = says_root writes new r.node below.node done.node

    root_form : (b : Bool) → writes ≡ b → new ≤ top32 → b ≡ true → All RecordForm (record_says (place_of p) (new_root_says new r.node))
    root_form false i t e = absurd (false≢true e)
    root_form true i t z =
        let e = ap (λ (o : step.Outcome). o.node) below_is in
        let sh : Shaped (place_of p) (unversioned below.node) = subst (λ u. Shaped (place_of p) (unversioned u)) e (child_shaped w.here t) in
        says_form (new_root_says new r.node) (new_root new below.node) (place_of p)
        (subst (λ b. NodeSays b (new_root_says new r.node) (new_root new below.node)) i root_says_lem)
        (subst (Shaped (place_of p)) (sym (root_tree new below.node)) sh)
        (root_numbered new below.node (w.here.number, t) (subst Numbered e (child_numbered w.here t)))

    pub root_places : {s₂ : Bytes} {n : node.Node} → new ≤ top32 → Changed (when_writes writes (mark new (ends_says Deleted v (place_of p)))) s₁ s₂ →
        n ≡ new_root_says new r.node → Places writes s₂ r.reach p (record_says (place_of p) n)
    root_places t m e = record {
      stored = changed_stored m;
      starts = starts_marked writes new (ends_says Deleted v (place_of p)) m x.reach.starts;
      proper = w.here.standing.proper;
      form = λ z. subst (λ n. All RecordForm (record_says (place_of p) n)) (sym e) (root_form writes refl t z);
    }

    -- the new root's record
    abbrev root_record : List Record
    root_record = record_at leaf_hash inner_hash [] (new_root new below.node)

    record_is : writes ≡ true → record_says (place_of p) (new_root_says new r.node) ≡ root_record
    record_is z =
        ap (λ q. record_says q (new_root_says new r.node)) w.top
        ∙ says_record writes (new_root_says new r.node) (new_root new below.node) z root_says_lem []

    record_many : length (record_says (place_of p) (new_root_says new r.node)) ≡ length root_record
    unfolding updated_says
    record_many =
        ap (λ q. length (record_says q (new_root_says new r.node))) w.top
        ∙ says_many writes (record { change = Updated; node = new_root_says new r.node; reach = 0 }) (new_root new below.node) root_says_lem []

    marks_are : ends_says Deleted v (place_of p) ≡ step.node_at [] tree
    marks_are = ap₂ child_nodes (sym w.here.standing.top) w.top ∙ top_nodes tree [] (numbered w.here)

    ends_older : AllOlder new (step.node_at [] tree)
    ends_older u q h = subst (λ z. Older new z tree) w.top w.here.older u q (at_node_lem u q tree [] h).0

    -- what was below the root, its mark, and the new root
    pub root_did : {s₂ s₃ : Bytes} {n : node.Node} {k : ℕ} → Changed (when_writes writes (mark new (ends_says Deleted v (place_of p)))) s₁ s₂ →
        n ≡ new_root_says new r.node → Placed writes r.reach (record_says (place_of p) n) s₂ s₃ k →
        Did new writes 0 s s₃ (step.step_root leaf_hash inner_hash new tree (asks part)) (record { change = r.change; node = n; reach = k })
    unfolding step.step_root
    root_did {s₂} {s₃} {n} {k} m e z = record {
      change = done.change;
      node = rw e root_says_lem;
      reach =
          reaches_then writes (length-append below.fresh root_record) done.reach
          (reaches_as writes (ap (λ c. length (record_says (place_of p) c)) e ∙ record_many) z.reach);
      bytes =
          let m' = subst (λ ns. Changed (when_writes writes (mark new ns)) s₁ s₂) marks_are m in
          let z' = placed_as writes (λ z. ap (record_says (place_of p)) e ∙ record_is z) z.bytes in
          changed_as _ (when_writes writes (λ u. placed (below.fresh ++ root_record) (mark new (below.retired ++ step.node_at [] tree) u)))
          (in_turn_lem writes new below.fresh root_record below.retired (step.node_at [] tree) (store_of s).slots below_new ends_older)
          (changed_then (changed_then done.bytes m') z');
    }
