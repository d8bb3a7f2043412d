-- The steps over lent memory are those of the definition: at an inner node by the outcomes at its children, the right one reached after the
-- writes of the left. Assumes nothing.
use Prim.Native.Nat.{ℕ, suc, ◌-◌, ◌<◌, ◌≤◌}
use native.Mathlib.Omega.{arith}
use mathlib.Core.Path.{◌≡◌, refl, ap, ap₂, sym, ◌∙◌, subst, subst₂}
use mathlib.Core.Bool.{Bool, true, false, false≢true}
use lib.ListN.{length}
use Rattle.terms.specs.Bits.{Bytes, Side, Place, All, longer, left, right}
use Rattle.terms.specs.Form.{top32, RecordForm}
use Rattle.meaning.specs.Tree.{VTree, vnone, vleaf, vinner, unversioned, top_version, kid}
use Rattle.meaning.specs.Runs.{run}
use Rattle.meaning.specs.Store.{child_of}
use Rattle.meaning.specs.Sound.{Stands}
use Rattle.meaning.proofs.Shaped.{Shaped}
use Rattle.histories.proofs.Standing.{kid_stands}
use Rattle.nodehash.specs.Node.{leaf_hash, inner_hash}
use Rattle.place.specs.declared.Place as place
use Rattle.place.specs.Place.{place_of, Grown}
use Rattle.place.proofs.Places.{proper_count}
use Rattle.layout.specs.Stores.{store_of}
use Rattle.slots.specs.declared.Child as child
use Rattle.slots.specs.Answer.{child_says}
use Rattle.std.specs.declared.option.Option as option
use Rattle.std.specs.Prelude.{Some, None}
use Rattle.lookup.specs.Lookup.{FoundIn}
use Rattle.batch.specs.Batch.{asks}
use Rattle.batch.specs.Runs.{Run, run_of}
use Rattle.batch.proofs.Runs.{asks_of_part, run_at, run_grown}
use Rattle.steps.specs.Step as step
use Rattle.steps.specs.Given.{Older}
use Rattle.steps.proofs.Among.{at_node_lem}
use Rattle.apply_place.specs.declared.Node.TheVariants as N
use Rattle.apply_place.specs.Placing.{Stored, Single}
use Rattle.apply_place.specs.Reach.{Starts}
use Rattle.apply_place.proofs.Changing.{changed_stored}
use Rattle.apply_outcome.specs.declared.Outcome as declared
use Rattle.apply_outcome.specs.Outcomes.{Weighs, NodeSays, change_says, updated_says, Kept, Did}
use Rattle.apply_outcome.proofs.Saying.{says_child, says_few}
use Rattle.apply_outcome.proofs.Forms.{Numbered}
use Rattle.apply_read.specs.declared.Onward as onward
use Rattle.apply_read.specs.declared.Onward.TheVariants.{End, Inner}
use Rattle.apply_read.specs.Held.{version_in, UsedAt, GoesOn}
use Rattle.apply_read.specs.Standing.{tree_here, is_inner}
use Rattle.apply_read.proofs.Standing.{node_none, slot_used, slot_version, ends_there, goes_there}
use Rattle.apply_inner.specs.Settling.{settled_says, SettledTo, Settles, Settled}
use Rattle.apply_inner.proofs.Inner.{settled_did}
use Rattle.apply_inner.proofs.Standing.{kid_older, top_older, stands_after, single_after, found_after, found_version, child_read, child_standing}
use Rattle.apply_tip.specs.Stepping.{Here, AtTip, at_node, at_child}
use Rattle.apply_tip.proofs.Stepping.{stepping, step_inner_lem, side_step, shaped, numbered, child_new, child_ends, child_form, child_kept, child_few}
use Rattle.apply_step.specs.Inner.{HereInner}

-- on a side of an inner node, in bytes where its child stands
module _ {new : ℕ} {writes : Bool} {from : ℕ} {s : Bytes} {p : place.Place} {v : ℕ} {part : Bytes} (w : Here new writes from s p v part) (h : p.count < 256)
    (b : Side) {q : place.Place}
    (g : Grown b p q) {u : ℕ} (e : u ≡ top_version (kid b (tree_here s p v))) {part' : Bytes}
    (f : part' ≡ run_of b p.count part) {s' : Bytes} (st : Stored s')
    (k : Stands leaf_hash inner_hash (store_of s') (longer b (place_of p)) (kid b (tree_here s p v)))
    (one : (i : ℕ) (z : Place) → i < new → Single i z (store_of s').slots) {reach : ℕ} (start : Starts writes (store_of s').slots reach) where
  abbrev side_tree : VTree
  side_tree = kid b (tree_here s p v)

  side_stands : Stands leaf_hash inner_hash (store_of s') (place_of q) side_tree
  side_stands = rw g.place k

  side_read : tree_here s' q u ≡ side_tree
  side_read = child_read st q g.proper side_tree e side_stands

  side_here : Here new writes reach s' q u part'
  side_here = record {
    standing = child_standing st q g.proper side_tree e side_stands;
    starts = start;
    number = w.number;
    run = subst (Run (place_of q)) (sym f) (run_grown p part w.standing.proper h w.run b q g);
    older = rw (side_read, g.place) (kid_older b new (place_of p) (tree_here s p v) w.older);
    single = one;
  }

  side_asks : asks part' ≡ run (length (place_of p)) b (asks part)
  side_asks =
      ap asks f ∙ asks_of_part b p.count part (run_at p part w.standing.proper h w.run)
      ∙ ap (λ i. run i b (asks part)) (sym (proper_count p w.standing.proper))

  side_is : at_child new s' q u part' ≡ side_step new (place_of p) (asks part) (255 - p.count) b side_tree
  unfolding at_child
  side_is = let n : 256 - q.count ≡ 255 - p.count = omega (arith, g.count) in rw (n, g.place, side_read, side_asks)

-- at an inner node
module _ {new : ℕ} {writes : Bool} {from : ℕ} {s : Bytes} {p : place.Place} {slot vl vr : ℕ} {part : Bytes} (w : HereInner new writes from s p slot vl vr part) where
  abbrev v : ℕ
  v = version_in s slot

  abbrev whole : VTree
  whole = tree_here s p v

  its_stands : Stands leaf_hash inner_hash (store_of s) (place_of p) whole
  its_stands = w.here.standing.stands

  is_older : v < new
  is_older = omega (arith, top_older new (place_of p) whole w.here.number w.here.older, w.here.standing.top)

  pub is_short : p.count < 256
  is_short =
      omega (arith, go whole w.inner (shaped w.here), proper_count p w.here.standing.proper)
    where
      go : (t : VTree) → is_inner t ≡ true → Shaped (place_of p) (unversioned t) → length (place_of p) ≤ 255
      go vnone e h = absurd (false≢true e)
      go (vleaf x g) e h = absurd (false≢true e)
      go (vinner x l r) e h = h.0

  module _ {lplace : place.Place} (gl : Grown left p lplace) {lpart : Bytes} (fl : lpart ≡ run_of left p.count part) where
    left_stands : Stands leaf_hash inner_hash (store_of s) (longer left (place_of p)) (kid left whole)
    left_stands = kid_stands leaf_hash inner_hash left (store_of s) (place_of p) whole its_stands

    -- the left child
    pub left_here : Here new writes from s lplace vl lpart
    left_here = side_here w.here is_short left gl w.left_is fl w.here.standing.stored left_stands w.here.single w.here.starts

    left_read : tree_here s lplace vl ≡ kid left whole
    left_read = side_read w.here is_short left gl w.left_is fl w.here.standing.stored left_stands w.here.single w.here.starts

    abbrev lefts : step.Outcome
    lefts = at_child new s lplace vl lpart

    module _ {s₁ : Bytes} {l : declared.Outcome} (x : Did new writes from s s₁ lefts l) {rplace : place.Place} (gr : Grown right p rplace) {rpart : Bytes}
        (fr : rpart ≡ run_of right p.count part) where
      -- the whole tree, and so the right child, stand after the writes of the left
      still_stands : Stands leaf_hash inner_hash (store_of s₁) (place_of p) whole
      still_stands = stands_after new lefts (child_new left_here) writes x.bytes (place_of p) whole w.here.older its_stands

      right_stands : Stands leaf_hash inner_hash (store_of s₁) (longer right (place_of p)) (kid right whole)
      right_stands = kid_stands leaf_hash inner_hash right (store_of s₁) (place_of p) whole still_stands

      right_once : (u : ℕ) (z : Place) → u < new → Single u z (store_of s₁).slots
      right_once = single_after new lefts (child_new left_here) writes x.bytes w.here.single

      still_there : FoundIn (store_of s₁).slots v (place_of p) (Some slot)
      still_there = found_after new lefts writes x.bytes v (place_of p) slot (right_once v (place_of p) is_older) w.there

      pub right_here : Here new writes l.reach s₁ rplace vr rpart
      right_here = side_here w.here is_short right gr w.right_is fr (changed_stored x.bytes) right_stands right_once x.reach.starts

      right_read : tree_here s₁ rplace vr ≡ kid right whole
      right_read = side_read w.here is_short right gr w.right_is fr (changed_stored x.bytes) right_stands right_once x.reach.starts

      abbrev rights : step.Outcome
      rights = at_child new s₁ rplace vr rpart

      module _ {s₂ : Bytes} {r : declared.Outcome} (y : Did new writes l.reach s₁ s₂ rights r) where
        both_once : (u : ℕ) (z : Place) → u < new → Single u z (store_of s₂).slots
        both_once = single_after new rights (child_new right_here) writes y.bytes right_once

        both_there : FoundIn (store_of s₂).slots v (place_of p) (Some slot)
        both_there = found_after new rights writes y.bytes v (place_of p) slot (both_once v (place_of p) is_older) still_there

        same_version : version_in s₂ slot ≡ v
        same_version = found_version s₂ v (place_of p) slot both_there

        both_stand : Stands leaf_hash inner_hash (store_of s₂) (place_of p) whole
        both_stand = stands_after new rights (child_new right_here) writes y.bytes (place_of p) whole w.here.older still_stands

        -- the tree is read as before
        read_again : tree_here s₂ p (version_in s₂ slot) ≡ whole
        read_again =
            ap (tree_here s₂ p) same_version
            ∙ child_read (changed_stored y.bytes) p w.here.standing.proper whole (sym w.here.standing.top) both_stand

        -- of an unchanged child the record says what is still true
        kept_side : (b : Side) (c : child.Child) (o : declared.Outcome) (a : step.Outcome) (t : VTree) → child_says c ≡ child_of leaf_hash inner_hash (kid b whole) →
            change_says o.change ≡ a.change → NodeSays writes o.node a.node → (a.change ≡ step.unchanged → a.node ≡ t) → t ≡ kid b whole →
            Kept writes c o
        kept_side b c o a t says e h k i z u =
            says ∙ ap (child_of leaf_hash inner_hash) (sym (k (sym e ∙ ap change_says u) ∙ i)) ∙ sym (says_child writes o.node a.node z h)

        kept_both : (lchild rchild : child.Child) (i j : ℕ) → NodeSays true (N.Inner (version_in s₂ slot) lchild rchild i j) (tree_here s₂ p (version_in s₂ slot)) →
            Kept writes lchild l × Kept writes rchild r
        kept_both lchild rchild i j says =
            let (a, b, e, sl, sr, ws) = says in
            let is : whole ≡ vinner (version_in s₂ slot) a b = sym read_again ∙ e in (
              kept_side left lchild l lefts (tree_here s lplace vl) (sl ∙ ap (λ z. child_of leaf_hash inner_hash (kid left z)) (sym is)) x.change x.node
                  (child_kept left_here) left_read,
              kept_side right rchild r rights (tree_here s₁ rplace vr) (sr ∙ ap (λ z. child_of leaf_hash inner_hash (kid right z)) (sym is)) y.change y.node
                  (child_kept right_here) right_read,
            )

        pub may_settle : {since : ℕ} → (writes ≡ true → since ≡ new) → new ≤ top32 → Settles new since writes s₂ p slot l r
        may_settle m t = record {
          marks = m;
          standing =
              child_standing (changed_stored y.bytes) p w.here.standing.proper whole (same_version ∙ sym w.here.standing.top) both_stand;
          there = subst (λ u. FoundIn (store_of s₂).slots u (place_of p) (Some slot)) (sym same_version) both_there;
          short = is_short;
          inner = rw read_again w.inner;
          number = w.here.number;
          older = rw read_again w.here.older;
          single = both_once;
          starts = y.reach.starts;
          left_form = λ e. subst (λ q. All RecordForm (updated_says q l)) gl.place (child_form left_here t l x.node e);
          right_form = λ e. subst (λ q. All RecordForm (updated_says q r)) gr.place (child_form right_here t r y.node e);
          left_few = says_few writes l.node _ x.node;
          right_few = says_few writes r.node _ y.node;
          kept = kept_both;
        }

        step_is : whole ≡ vinner v (kid left whole) (kid right whole) →
            step.inner_by leaf_hash inner_hash new (place_of p) v (kid left whole) (kid right whole) lefts rights ≡ at_node new s p v part
        unfolding at_node
        step_is is =
            let n : 256 - p.count ≡ suc (255 - p.count) = let i = is_short in omega arith in
            let q = place_of p in
            ap₂ (step.inner_by leaf_hash inner_hash new q v (kid left whole) (kid right whole))
            (side_is w.here is_short left gl w.left_is fl w.here.standing.stored left_stands w.here.single w.here.starts)
            (side_is w.here is_short right gr w.right_is fr (changed_stored x.bytes) right_stands right_once x.reach.starts)
            ∙ sym (ap₂ (stepping new q (asks part)) n is ∙ step_inner_lem new q (asks part) (255 - p.count) v (kid left whole) (kid right whole))

        -- what becomes of it
        pub inner_did : (w₂ : Bool) → writes ≡ w₂ → {s₃ : Bytes} {o : declared.Outcome} → Settled new w₂ s₂ s₃ p slot l r o →
            Did new writes from s s₃ (at_node new s p v part) o
        inner_did w₂ same {s₃} {o} z =
            let (a, b, e', sl, sr, ws) = z.node in
            let e : whole ≡ vinner v a b = sym read_again ∙ e' ∙ ap (λ u. vinner u a b) same_version in
            let is : whole ≡ vinner v (kid left whole) (kid right whole) = rw e refl in
            let la : child_says z.left_child ≡ child_of leaf_hash inner_hash (kid left whole) = rw e sl in
            let lb : child_says z.right_child ≡ child_of leaf_hash inner_hash (kid right whole) = rw e sr in
            let lw : Weighs z.lefts z.rights (kid left whole) (kid right whole) = rw e ws in
            let k : Numbered (vinner v (kid left whole) (kid right whole)) = subst Numbered is (numbered w.here) in
            let older-kid : (b : Side) → Older new (longer b (place_of p)) (kid b whole) = λ b. kid_older b new (place_of p) whole w.here.older in
            subst (λ u. Did new writes from s s₃ u o) (step_is is)
            (settled_did new writes p v (kid left whole) (kid right whole) lefts rights z.left_child z.right_child
            la lb k.1 k.2 x y (child_new left_here) (child_new right_here) (child_ends right_here)
            (λ u i m. older-kid left u i (at_node_lem u i (kid left whole) (longer left (place_of p)) m).0)
            (λ u i m. older-kid right u i (at_node_lem u i (kid right whole) (longer right (place_of p)) m).0)
            lw (omega (arith, child_few left_here, child_few right_here))
            (subst₂ (λ (t : Bool) (u : ℕ). SettledTo (settled_says l r) new t s₂ s₃ p u z.left_child z.right_child z.lefts z.rights l r o) (sym same) same_version z.settled))

-- by what was found
module _ {new : ℕ} {writes : Bool} {from : ℕ} {s : Bytes} {p : place.Place} {v : ℕ} {part : Bytes} (w : Here new writes from s p v part) (o : option.Option ℕ)
    (f : FoundIn (store_of s).slots v (place_of p) o) where
  pub found_used : UsedAt s o
  found_used = go o refl
    where
      go : (d : option.Option ℕ) → o ≡ d → UsedAt s d
      go None e = tt
      go (Some i) e = slot_used w.standing f e

  pub at_tip_here : {d : onward.Onward} → d ≡ End → GoesOn s o d → AtTip new writes from s p v o part
  at_tip_here {d} e g = record { here = w; there = f; tip = go o refl g }
    where
      go : (c : option.Option ℕ) → o ≡ c → GoesOn s c d → is_inner (tree_here s p v) ≡ false
      go None i h = ap is_inner (node_none w.standing f i)
      go (Some i) j h = ends_there w.standing f j e h

  module _ {d : onward.Onward} {i l r : ℕ} (e : d ≡ Inner i l r) (g : GoesOn s o d) where
    found_there : (o ≡ Some i) × (is_inner (tree_here s p v) ≡ true) × (l ≡ top_version (kid left (tree_here s p v))) × (r ≡ top_version (kid right (tree_here s p v)))
    found_there = go o refl g
      where
        go : (c : option.Option ℕ) → o ≡ c → GoesOn s c d →
            (o ≡ Some i) × (is_inner (tree_here s p v) ≡ true) × (l ≡ top_version (kid left (tree_here s p v))) × (r ≡ top_version (kid right (tree_here s p v)))
        go None j h = let z : ◌≡◌ {A = ℕ} 0 1 = cc in absurd (omega arith)
        go (Some k) j h = let t = goes_there w.standing f j e h in (j ∙ ap Some (sym t.0), t.1, t.2, t.3)

    its_version : version_in s i ≡ v
    its_version = slot_version w.standing f found_there.0

    pub goes_on : HereInner new writes from s p i l r part
    goes_on =
        let back = sym its_version in
        record {
          here = subst (λ u. Here new writes from s p u part) back w;
          there = subst (λ u. FoundIn (store_of s).slots u (place_of p) (Some i)) back (subst (FoundIn (store_of s).slots v (place_of p)) found_there.0 f);
          inner = subst (λ u. is_inner (tree_here s p u) ≡ true) back found_there.1;
          left_is = subst (λ u. l ≡ top_version (kid left (tree_here s p u))) back found_there.2;
          right_is = subst (λ u. r ≡ top_version (kid right (tree_here s p u))) back found_there.3;
        }

    pub went_on : {s' : Bytes} {c : declared.Outcome} → Did new writes from s s' (at_node new s p (version_in s i) part) c →
        Did new writes from s s' (at_node new s p v part) c
    went_on {s'} {c} d = subst (λ u. Did new writes from s s' (at_node new s p u part) c) its_version d

-- a pass is told from the other
pub did_when : {new : ℕ} {from : ℕ} {s s' : Bytes} {o : step.Outcome} {r : declared.Outcome} (w w₂ : Bool) → w ≡ w₂ → Did new w₂ from s s' o r → Did new w from s s' o r
did_when {new} {from} {s} {s'} {o} {r} w w₂ e d = subst (λ t. Did new t from s s' o r) (sym e) d

pub tip_when : {new from : ℕ} {s : Bytes} {p : place.Place} {v : ℕ} {o : option.Option ℕ} {part : Bytes} (w w₂ : Bool) → w ≡ w₂ → AtTip new w from s p v o part →
    AtTip new w₂ from s p v o part
tip_when {new} {from} {s} {p} {v} {o} {part} w w₂ e h = subst (λ t. AtTip new t from s p v o part) e h

pub settles_when : {new since : ℕ} {s : Bytes} {p : place.Place} {slot : ℕ} {l r : declared.Outcome} (w w₂ : Bool) → w ≡ w₂ → Settles new since w s p slot l r →
    Settles new since w₂ s p slot l r
settles_when {new} {since} {s} {p} {slot} {l} {r} w w₂ e h = subst (λ t. Settles new since t s p slot l r) e h
