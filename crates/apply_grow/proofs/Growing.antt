-- Growing a subtree in lent memory: the outcomes on its two sides, and a new inner node above them, are the outcome of the definition.
-- Assumes nothing.
use Prim.Native.Nat.{ℕ, zero, suc, ◌+◌, ◌-◌, ◌<◌, ◌≤◌}
use native.Mathlib.Omega.{arith}
use mathlib.Core.Path.{◌≡◌, refl, ap, ap₂, sym, ◌∙◌, subst, subst₂}
use mathlib.Core.Bool.{Bool, true, false}
use mathlib.Core.List.{List, [], ◌∷◌}
use mathlib.Core.Option.{Option, none, some}
use lib.Dec.{ltb}
use borrow.Author.Tests.{ltb-true, ltb-false}
use lib.ListN.{length}
use Rattle.terms.specs.Bits.{Bytes, Side, Place, All, longer, left, right, begins}
use Rattle.terms.specs.Records.{Grant, grant, Ask}
use Rattle.terms.specs.Form.{top32, RecordForm}
use Rattle.meaning.specs.Tree.{Tree, with_batch, VTree, vnone, vleaf, leaves}
use Rattle.meaning.specs.Runs.{run}
use Rattle.meaning.proofs.Sides.{tree_by}
use Rattle.hash.specs.declared.Hash.{Hash}
use Rattle.hash.specs.Hash.{hash_bytes}
use Rattle.nodehash.specs.Node.{leaf_hash, inner_hash}
use Rattle.layout.specs.Stores.{store_of}
use Rattle.place.specs.declared.Place as place
use Rattle.place.specs.Place.{place_of, Grown}
use Rattle.place.proofs.Places.{proper_count}
use Rattle.batch.specs.Sizes.{most_records}
use Rattle.batch.specs.Batch.{asks}
use Rattle.batch.specs.Runs.{Run, run_of}
use Rattle.batch.proofs.Records.{asks_whole, length_asks}
use Rattle.batch.proofs.Runs.{asks_of_part, run_at, run_grown}
use Rattle.steps.specs.Step as step
use Rattle.steps.specs.Given.{Gives}
use Rattle.steps.specs.Writing.{written, mark}
use Rattle.steps.proofs.Inserts.{ascending_rising}
use Rattle.steps.proofs.Fitting.{Fits, fits_shaped}
use Rattle.steps.proofs.Growing.{staying, Stays, grows_one, grow_gives}
use Rattle.steps.proofs.Leaves.{grow_leaves}
use Rattle.steps.proofs.Writing.{AllNew, AllOlder, given_new, given_older}
use Rattle.slots.specs.declared.Child as child
use Rattle.slots.specs.Answer.{child_says}
use Rattle.apply_place.specs.declared.Node as node
use Rattle.apply_place.specs.declared.Node.TheVariants as N
use Rattle.apply_place.specs.Placing.{Stored, Changed, when_writes}
use Rattle.apply_place.proofs.Changing.{unchanged, changed_as, changed_stored}
use Rattle.apply_place.specs.Reach.{Starts}
use Rattle.apply_place.proofs.Placing.{placed_nothing}
use Rattle.apply_place.proofs.Reaching.{reaches_none}
use Rattle.apply_outcome.specs.declared.Change.TheVariants as C
use Rattle.apply_outcome.specs.declared.Outcome as declared
use Rattle.apply_outcome.specs.Outcomes.{change_says, node_child, NodeSays, updated_says, Kept, Did}
use Rattle.apply_outcome.proofs.Saying.{says_few}
use Rattle.apply_outcome.proofs.Forms.{given_form}
use Rattle.apply_outcome.proofs.Forking.{mark_nothing, nothing_marked}
use Rattle.apply_fork.specs.Fork.{Forks, Forked}
use Rattle.apply_fork.proofs.Forked.{fork_did}
use Rattle.std.specs.declared.option.Option as option
use Rattle.apply_inserts.specs.declared.Grant as declared-grant
use Rattle.apply_inserts.specs.declared.Few as declared-few
use Rattle.apply_inserts.specs.declared.Few.TheVariants.{Nothing, One, Several}
use Rattle.apply_inserts.specs.Inserts.{stays_says, stays_at, FewSays, StaysAt}
use Rattle.apply_grow.specs.Growing.{Grows}
use Rattle.apply_inserts.proofs.Sides.{stays_longer, stays_at_side}

-- a run and a leaf that stays fit their place
fits_of : (p : Place) (part : Bytes) (stays : Option Grant) → Run p part → StaysAt p stays (asks part) → Fits p (staying stays) (asks part)
unfolding begins
fits_of p part none w h = record {
  rising = ascending_rising (asks part) w.order;
  asks_form = asks_whole part w.bytes;
  asks_at = w.under;
  ascending = tt;
  grants_form = tt;
  begun = tt;
}
fits_of p part (some g) w h = record {
  rising = ascending_rising (asks part) w.order;
  asks_form = asks_whole part w.bytes;
  asks_at = w.under;
  ascending = (tt, tt);
  grants_form = (h.0, tt);
  begun = (h.1, tt);
}

stays_of : (p : Place) (stays : Option Grant) (as' : List Ask) → StaysAt p stays as' → Stays stays as'
stays_of p none as' h = tt
stays_of p (some g) as' h = h.2

-- what is written where nothing is placed and nothing ends
pub written_nothing : (writes : Bool) (new : ℕ) (c : step.Change) (t : VTree) {s : Bytes} → Stored s →
    Changed (when_writes writes (written new (step.outcome c t))) s s
written_nothing true new c t {s} h =
    changed_as (λ x. x) (written new (step.outcome c t)) (sym (placed_nothing (mark new [] (store_of s).slots) ∙ mark_nothing new (store_of s).slots)) (unchanged h)
written_nothing false new c t h = unchanged h

module _ (new : ℕ) (q : Place) (stays : Option Grant) (as' : List Ask) where
  abbrev growing : ℕ → step.Outcome
  growing n = step.grow leaf_hash inner_hash new n q stays as'

  grow_none : (n : ℕ) → step.to_grow stays as' ≡ [] → growing n ≡ step.outcome step.unchanged vnone
  unfolding step.grow
  grow_none zero e = rw e
  grow_none (suc n) e = rw e

  grow_one : (n : ℕ) (g : Grant) → step.to_grow stays as' ≡ g ∷ [] → growing n ≡ step.outcome step.updated (vleaf new g)
  unfolding step.grow
  grow_one zero g e = rw e
  grow_one (suc n) g e = rw e

  -- what grows nothing is unchanged, and else it is updated
  grown_none : (side : Side → step.Outcome) (gs : List Grant) → (step.grow_by leaf_hash inner_hash new q gs side).change ≡ step.unchanged →
      (step.grow_by leaf_hash inner_hash new q gs side).node ≡ vnone
  grown_none side [] e = refl
  grown_none side (g ∷ []) e = let z : ◌≡◌ {A = ℕ} 0 1 = cc in absurd (omega arith)
  grown_none side (g ∷ h ∷ gs) e = let z : ◌≡◌ {A = ℕ} 0 1 = cc in absurd (omega arith)

  grow_unchanged : (n : ℕ) → (growing n).change ≡ step.unchanged → (growing n).node ≡ vnone
  unfolding step.grow
  grow_unchanged zero e = grown_none (λ b. step.outcome step.unchanged vnone) (step.to_grow stays as') e
  grow_unchanged (suc n) e =
      grown_none (λ b. step.grow leaf_hash inner_hash new n (longer b q) (step.leaf_on (length q) b stays) (run (length q) b as')) (step.to_grow stays as') e

  abbrev side_grown : ℕ → Side → step.Outcome
  side_grown n b = step.grow leaf_hash inner_hash new n (longer b q) (step.leaf_on (length q) b stays) (run (length q) b as')

  grow_more : (n : ℕ) {g h : Grant} {gs : List Grant} → step.to_grow stays as' ≡ g ∷ h ∷ gs →
      growing (suc n) ≡ step.fork leaf_hash inner_hash new q (side_grown n left) (side_grown n right) []
  unfolding step.grow
  grow_more n e = rw e

-- a run grows no more leaves than it asks for, and the one that stays
grow_few : (new n : ℕ) (q : Place) (stays : Option Grant) (as' : List Ask) → length as' ≤ most_records →
    leaves (step.grow leaf_hash inner_hash new n q stays as').node ≤ suc most_records
grow_few new n q none as' h = omega (arith, grow_leaves leaf_hash inner_hash new n q none as')
grow_few new n q (some g) as' h = omega (arith, grow_leaves leaf_hash inner_hash new n q (some g) as')

-- no node is at the top of no tree
no_top : (w : Bool) (n : node.Node) (t : VTree) → t ≡ vnone → NodeSays w n t → n ≡ N.Nothing
no_top w N.Nothing t e h = refl
no_top w (N.Leaf v k x) t e h = let z : ◌≡◌ {A = ℕ} 0 1 = cc in absurd (omega arith)
no_top w (N.Inner v l r m n) t e (a, b, i, x, y, j) = let z : ◌≡◌ {A = ℕ} 0 1 = cc in absurd (omega arith)

-- a place where a subtree grows, and the outcome there
module _ {new : ℕ} {writes : Bool} {from : ℕ} {s : Bytes} {p : place.Place} {leaf : option.Option declared-grant.Grant} {part : Bytes}
    (w : Grows new writes from s p leaf part) where
  -- the leaf that stays there
  abbrev here : Option Grant
  here = stays_at (place_of p) (stays_says leaf)

  abbrev grows : step.Outcome
  grows = step.grow leaf_hash inner_hash new (256 - p.count) (place_of p) here (asks part)

  long : length (place_of p) + (256 - p.count) ≡ 256
  long = let h = w.proper.short in omega (arith, proper_count p w.proper)

  fits : Fits (place_of p) (staying here) (asks part)
  fits = fits_of (place_of p) part here w.run w.stays

  stay : Stays here (asks part)
  stay = stays_of (place_of p) here (asks part) w.stays

  abbrev after : Tree
  after = tree_by (256 - p.count) (length (place_of p)) (with_batch (asks part) (staying here))

  given : Gives leaf_hash inner_hash new (place_of p) vnone after grows
  given = grow_gives leaf_hash inner_hash new (256 - p.count) (place_of p) here (asks part) long fits stay

  grows_new : AllNew new grows.fresh
  grows_new = given_new leaf_hash inner_hash new (place_of p) vnone after grows given

  grows_older : AllOlder new grows.retired
  grows_older = given_older leaf_hash inner_hash new (place_of p) vnone after grows given (λ v q h. absurd h)

  pub grows_few : leaves grows.node ≤ suc most_records
  grows_few = grow_few new (256 - p.count) (place_of p) here (asks part) (omega (arith, length_asks part, w.run.few))

  grows_form : new ≤ top32 → (r : declared.Outcome) → NodeSays writes r.node grows.node → writes ≡ true → All RecordForm (updated_says (place_of p) r)
  grows_form t r h =
      given_form new (place_of p) vnone after grows given (w.number, t) tt
      (fits_shaped (256 - p.count) (place_of p) (staying here) (asks part) long fits) writes r h

  -- an unchanged outcome has no node
  grows_kept : (c : child.Child) (r : declared.Outcome) → child_says c ≡ node_child N.Nothing → change_says r.change ≡ grows.change →
      NodeSays writes r.node grows.node → Kept writes c r
  grows_kept c r k e h z u =
      let t = grow_unchanged new (place_of p) here (asks part) (256 - p.count) (sym e ∙ ap change_says u) in
      k ∙ ap node_child (sym (no_top writes r.node grows.node t h))

  -- the grants, by the case of what was found
  pub few_is : (o : option.Option declared-grant.Grant) {f g : declared-few.Few} → stays_says o ≡ here → f ≡ g → FewSays f (step.to_grow (stays_says o) (asks part)) →
      FewSays g (step.to_grow here (asks part))
  few_is o i e h = subst₂ (λ x y. FewSays x (step.to_grow y (asks part))) e i h

  pub none_did : FewSays Nothing (step.to_grow here (asks part)) →
      Did new writes from s s grows (record { change = C.Unchanged; node = N.Nothing; reach = from })
  none_did f =
      subst (λ o. Did new writes from s s o (record { change = C.Unchanged; node = N.Nothing; reach = from }))
      (sym (grow_none new (place_of p) here (asks part) (256 - p.count) f))
      (record {
        change = refl;
        node = refl;
        reach = reaches_none writes refl w.starts;
        bytes = written_nothing writes new step.unchanged vnone w.stored;
      })

  pub one_did : {k x : Hash} → FewSays (One k x) (step.to_grow here (asks part)) →
      Did new writes from s s grows (record { change = C.Updated; node = N.Leaf new k x; reach = from })
  one_did {k} {x} f =
      subst (λ o. Did new writes from s s o (record { change = C.Updated; node = N.Leaf new k x; reach = from }))
      (sym (grow_one new (place_of p) here (asks part) (256 - p.count) (grant (hash_bytes k) (hash_bytes x)) f))
      (record {
        change = refl;
        node = refl;
        reach = reaches_none writes refl w.starts;
        bytes = written_nothing writes new step.updated (vleaf new (grant (hash_bytes k) (hash_bytes x))) w.stored;
      })

  -- two or more differ in a bit that is left
  pub several_short : FewSays Several (step.to_grow here (asks part)) → p.count < 256
  several_short f = go (ltb p.count 256) refl
    where
      go : (t : Bool) → ltb p.count 256 ≡ t → p.count < 256
      go true h = ltb-true p.count 256 h
      go false h =
          let b = w.proper.short in
          let l = ltb-false p.count 256 h in
          absurd (grows_one (place_of p) here (asks part) (omega (arith, l, proper_count p w.proper)) fits stay
          (subst (λ gs. 1 < length gs) (sym f.3) (omega arith)))

-- on a side of it
module _ {new : ℕ} {writes : Bool} {from : ℕ} {s : Bytes} {p : place.Place} {leaf : option.Option declared-grant.Grant} {part : Bytes}
    (w : Grows new writes from s p leaf part) where
  module _ (b : Side) (h : p.count < 256) {r : place.Place} {part' : Bytes} (g : Grown b p r) (f : part' ≡ run_of b p.count part) where
    its_count : p.count ≡ length (place_of p)
    its_count = sym (proper_count p w.proper)

    side_leaf : stays_at (place_of r) (stays_says leaf) ≡ step.leaf_on (length (place_of p)) b (here w)
    side_leaf = ap (λ q. stays_at q (stays_says leaf)) g.place ∙ stays_longer b (place_of p) leaf (omega (arith, its_count))

    side_asks : asks part' ≡ run (length (place_of p)) b (asks part)
    side_asks =
        ap asks f ∙ asks_of_part b p.count part (run_at p part w.proper h w.run) ∙ ap (λ i. run i b (asks part)) its_count

    pub side_grows : {s' : Bytes} {k : ℕ} → Stored s' → Starts writes (store_of s').slots k → Grows new writes k s' r leaf part'
    side_grows st t = record {
      stored = st;
      starts = t;
      number = w.number;
      proper = g.proper;
      run = subst (Run (place_of r)) (sym f) (run_grown p part w.proper h w.run b r g);
      stays =
          rw (side_leaf, g.place, side_asks) (stays_at_side b (place_of p) (here w) (asks part) (omega (arith, its_count)) w.stays);
    }

    side_is : step.grow leaf_hash inner_hash new (256 - r.count) (place_of r) (stays_at (place_of r) (stays_says leaf)) (asks part')
        ≡ side_grown new (place_of p) (here w) (asks part) (255 - p.count) b
    side_is = let k : 256 - r.count ≡ 255 - p.count = omega (arith, g.count) in rw (side_leaf, k, g.place, side_asks)

  -- both sides, and the inner node above them
  module _ (t : new ≤ top32) (h : p.count < 256) {lplace rplace : place.Place} {lpart rpart s₁ s₂ : Bytes}
      {l r : declared.Outcome} (gl : Grown left p lplace) (gr : Grown right p rplace) (fl : lpart ≡ run_of left p.count part)
      (fr : rpart ≡ run_of right p.count part)
      (x : Did new writes from s s₁ (step.grow leaf_hash inner_hash new (256 - lplace.count) (place_of lplace) (stays_at (place_of lplace) (stays_says leaf)) (asks lpart)) l)
      (y : Did new writes l.reach s₁ s₂ (step.grow leaf_hash inner_hash new (256 - rplace.count) (place_of rplace) (stays_at (place_of rplace) (stays_says leaf)) (asks rpart)) r) where
    on_left_lem : Grows new writes from s lplace leaf lpart
    on_left_lem = side_grows left h gl fl w.stored w.starts

    on_right_lem : Grows new writes l.reach s₁ rplace leaf rpart
    on_right_lem = side_grows right h gr fr (changed_stored x.bytes) x.reach.starts

    pub sides_fork : {c : child.Child} → child_says c ≡ node_child N.Nothing → Forks writes s₂ p c c l r
    sides_fork {c} k = record {
      stored = changed_stored y.bytes;
      starts = y.reach.starts;
      proper = w.proper;
      short = h;
      left_form = λ e. subst (λ q. All RecordForm (updated_says q l)) gl.place (grows_form on_left_lem t l x.node e);
      right_form = λ e. subst (λ q. All RecordForm (updated_says q r)) gr.place (grows_form on_right_lem t r y.node e);
      left_kept = grows_kept on_left_lem c l k x.change x.node;
      right_kept = grows_kept on_right_lem c r k y.change y.node;
      left_few = says_few writes l.node _ x.node;
      right_few = says_few writes r.node _ y.node;
    }

    pub several_did : {s₃ : Bytes} {o : declared.Outcome} → FewSays Several (step.to_grow (here w) (asks part)) →
        Forked new writes s₂ s₃ (place_of p) l r o → Did new writes from s s₃ (grows w) o
    several_did {s₃} {o} f k =
        let a = step.grow leaf_hash inner_hash new (256 - lplace.count) (place_of lplace) (stays_at (place_of lplace) (stays_says leaf)) (asks lpart) in
        let b = step.grow leaf_hash inner_hash new (256 - rplace.count) (place_of rplace) (stays_at (place_of rplace) (stays_says leaf)) (asks rpart) in
        let q = place_of p in
        let n : 256 - p.count ≡ suc (255 - p.count) = omega arith in
        let is : step.fork leaf_hash inner_hash new q a b [] ≡ grows w =
        ap₂ (λ c d. step.fork leaf_hash inner_hash new q c d []) (side_is left h gl fl) (side_is right h gr fr)
        ∙ sym (ap (growing new q (here w) (asks part)) n ∙ grow_more new q (here w) (asks part) (255 - p.count) f.3) in
        subst (λ c. Did new writes from s s₃ c o) is
        (fork_did new writes q a b l r o [] x y (nothing_marked writes new (changed_stored y.bytes)) k (grows_new on_left_lem) (grows_new on_right_lem)
        (grows_older on_right_lem) (λ v u m. absurd m) (omega (arith, grows_few on_left_lem, grows_few on_right_lem)))
