-- The test that compares each version with the next one alone decides runs, and going backwards by it finds the longest one. Assumes
-- nothing.
use Prim.Native.Nat.{ℕ, zero, suc, ◌+◌, ◌-◌, ◌≤◌, ◌<◌, max}
use native.Mathlib.Omega.{arith}
use mathlib.Core.Path.{◌≡◌, refl, ap, ap₂, sym, ◌∙◌, subst}
use mathlib.Core.Logic.{◌↔◌}
use mathlib.Core.Bool.{Bool, true, false, cond, not, ◌&&◌, true≢false, false≢true}
use mathlib.Core.List.{List, [], ◌∷◌}
use mathlib.Core.Option.{Option, none, some}
use lib.Dec.{eqb, leb}
use borrow.Author.Tests.{ne_eqb, leb-true, leb-false, le-leb}
use Rattle.terms.specs.Bits.{Bytes, longer}
use Rattle.terms.specs.Records.{Record, Slot}
use Rattle.terms.proofs.Tests.{and_left, and_right}
use Rattle.meaning.specs.Tree.{top_version}
use Rattle.meaning.specs.Store.{tree_from, tree_found}
use Rattle.meaning.specs.Sound.{NodeOf}
use Rattle.histories.proofs.Slots.{find_has}
use Rattle.histories.proofs.Standing.{Formed}
use Rattle.local.proofs.Slots.{no_version, kids_from}
use Rattle.rescue_rules.specs.Rescue.{source_root, source_tree, Run, Longest}
use Rattle.rescue_rules.specs.Joining.{Joins, Good, Chain, version_of, root_version, floor, join_at, joins_next, run_test, back_from, first_of_run}
use Rattle.rescue_laws.proofs.Roots.{root_at_lem, root_up_to_lem}
use Rattle.rescue_laws.proofs.Runs.{Readable, run_joins, chain_run, chain_shrinks}
use Rattle.rescue_laws.proofs.Right.{tree_found_lem, RightAt, none_right}
use Rattle.rescue_laws.proofs.Joining.{JoinedAt, join_decides}
use Rattle.rescue_laws.proofs.Floors.{steep, nodes_not_above, top_found, steep_met, met_steep, chain_steep}

-- floors as numbers
first_floor : {t u m w : ℕ} → t ≡ u → u ≤ max m w → w ≡ 0 → t ≤ m
first_floor e h f = omega arith

next_floor : {t u w x y : ℕ} (m : ℕ) → t ≡ u → u ≤ max m w → x ≡ w → x ≤ y → t ≤ max y m
next_floor m e h f g = omega arith

same_most : {a b c x : ℕ} → a ≤ b → c ≡ b → c ≤ x → a ≤ x
same_most h e k = omega arith

both_most : {a b x : ℕ} → a ≤ x → b ≤ x → max a b ≤ x
both_most h k = omega arith

pub both : (x y : Bool) → x ≡ true → y ≡ true → x && y ≡ true
both x y e f = rw (e, f) refl

-- the root of a version
module _ (s : List Slot) where
  root_not_above : (v : ℕ) → root_version s v ≤ v
  unfolding root_version
  root_not_above v = go (source_root s v) refl
    where
      go : (o : Option Record) → source_root s v ≡ o → version_of o ≤ v
      go none e = omega arith
      go (some r) e = root_up_to_lem s v r e

  module _ (z : Formed s) where
    pub some_root : (v : ℕ) (r : Record) → source_root s v ≡ some r → (1 ≤ r.version) × (root_version s v ≡ r.version)
    unfolding root_version
    some_root v r e = ((z r (find_has r.version [] s r (root_at_lem s v r e)).0).versioned.0, ap version_of e)

    root_there : (v : ℕ) → not (eqb (root_version s v) 0) ≡ true → (r : Record) × (source_root s v ≡ some r)
    unfolding root_version
    root_there v h = go (source_root s v) refl h
      where
        go : (o : Option Record) → source_root s v ≡ o → not (eqb (version_of o) 0) ≡ true → (r : Record) × (source_root s v ≡ some r)
        go none e k = absurd (false≢true k)
        go (some r) e k = (r, e)

    there_root : (v : ℕ) → (r : Record) × (source_root s v ≡ some r) → not (eqb (root_version s v) 0) ≡ true
    there_root v (r, e) = let w = some_root v r e in rw (ne_eqb (root_version s v) 0 (λ k. omega (arith, w.0, w.1))) refl

    -- the tree of a version is read from its root as from any node
    pub read_root_lem : (n : ℕ) → n ≡ 256 → (v : ℕ) → source_tree s v ≡ tree_from n s (root_version s v) []
    unfolding source_tree root_version longer
    read_root_lem zero e v = absurd (omega arith)
    read_root_lem (suc n) e v = go (source_root s v) refl
      where
        m : 255 ≡ n
        m = omega arith

        go : (o : Option Record) → source_root s v ≡ o → tree_found o (λ b w. tree_from 255 s w (b ∷ [])) ≡ tree_from (suc n) s (version_of o) []
        go none e = sym (no_version (suc n) s [])
        go (some r) e =
            ap (λ k. tree_found (some r) (λ b w. tree_from k s w (b ∷ []))) m
            ∙ sym (tree_found_lem s z (suc n) r.version [] ∙ ap (λ o. tree_found o (kids_from (suc n) s [])) (root_at_lem s v r e))

    -- the root has the version that was read
    root_top : (v : ℕ) → (r : Record) × (source_root s v ≡ some r) → top_version (source_tree s v) ≡ root_version s v
    root_top v (r, e) =
        let w = (some_root v r e).1 in
        ap top_version (read_root_lem 256 refl v) ∙ ap (λ x. top_version (tree_from 256 s x [])) w ∙ top_found s z 256 r.version [] r (root_at_lem s v r e) ∙ sym w

    -- the floor is at least what the first tree holds
    steep_floor : (f n : ℕ) → steep (source_tree s f) ≤ floor s f n
    steep_floor f zero = first_floor (ap steep (read_root_lem 256 refl f)) (steep_met s z 256 (root_version s f) 0 []) (ap steep (no_version 256 s []))
    steep_floor f (suc n) =
        next_floor _ (ap steep (read_root_lem 256 refl f)) (steep_met s z 256 (root_version s f) (root_version s (suc f)) [])
        (ap steep (read_root_lem 256 refl (suc f))) (steep_floor (suc f) n)

module _ (leaf_hash inner_hash : Bytes → Bytes → Bytes) (s : List Slot) (z : Formed s) where
  abbrev pub Right : ℕ → Type 0
  Right v = RightAt leaf_hash inner_hash s z v [] (tree_from 256 s v [])

  pub good_right : (v : ℕ) → Good leaf_hash inner_hash s v → Right (root_version s v)
  good_right v g = subst (RightAt leaf_hash inner_hash s z (root_version s v) []) (read_root_lem s z 256 refl v)
      (record { version = root_top s z v g.root; stands = g.stands })

  -- what the floor is made of stands in the trees
  floor_steep : (f n x : ℕ) → ((v : ℕ) → f ≤ v → v ≤ f + n → Right (root_version s v) × (steep (source_tree s v) ≤ x)) → floor s f n ≤ x
  floor_steep f zero x h =
      let k = h f (omega arith) (omega arith) in
      same_most (met_steep s z leaf_hash inner_hash 256 (root_version s f) 0 [] refl k.0) (ap steep (read_root_lem s z 256 refl f)) k.1
  floor_steep f (suc n) x h =
      let k = h f (omega arith) (omega arith) in
      both_most (floor_steep (suc f) n x (λ v a b. h v (omega arith) (omega arith)))
      (same_most (met_steep s z leaf_hash inner_hash 256 (root_version s f) (root_version s (suc f)) [] refl k.0) (ap steep (read_root_lem s z 256 refl f)) k.1)

  chain_floor : (f n : ℕ) → Chain leaf_hash inner_hash s f n → floor s f n ≤ f
  chain_floor f n c = floor_steep f n f (λ v a b. (good_right v (c.good v a b), chain_steep leaf_hash inner_hash s z f n c v a b))

  -- one version before a tree that is right
  module _ (v b lowest : ℕ) (rb : Right b) where
    abbrev Next : Type 0
    Next = JoinedAt (suc v) [] (tree_from 256 s (root_version s v) []) (tree_from 256 s b [])

    next_into : steep (source_tree s v) ≤ lowest → joins_next leaf_hash inner_hash s v b lowest ≡ true → Good leaf_hash inner_hash s v × Next
    unfolding joins_next
    next_into low h =
        let x = not (eqb (root_version s v) 0) in
        let y = join_at leaf_hash inner_hash 256 s (suc v) (root_version s v) b [] in
        let k = and_right x (y && leb lowest v) h in
        let root = root_there s z v (and_left x (y && leb lowest v) h) in
        let j = (join_decides leaf_hash inner_hash s z (suc v) 256 (root_version s v) b [] refl rb).0 (and_left y (leb lowest v) k) in
        let t = read_root_lem s z 256 refl v in
        let top = root_top s z v root in (
          record {
            root = root;
            stands = rw t j.0.stands;
            versions = λ w q m. nodes_not_above w q (source_tree s v) [] v (omega (arith, top, root_not_above s v)) (omega (arith, low, leb-true lowest v (and_right y (leb lowest v) k))) m;
          },
          j.1,
        )

    next_back : Good leaf_hash inner_hash s v → Next → lowest ≤ v → joins_next leaf_hash inner_hash s v b lowest ≡ true
    unfolding joins_next
    next_back g j l =
        both _ _ (there_root s z v g.root)
        (both _ _ ((join_decides leaf_hash inner_hash s z (suc v) 256 (root_version s v) b [] refl rb).1 (good_right v g, j)) (le-leb lowest v l))

  pub none_next : (v : ℕ) → Right 0
  none_next v = subst (RightAt leaf_hash inner_hash s z 0 []) (sym (no_version 256 s [])) (none_right leaf_hash inner_hash s z [])

  nothing_joined : (v : ℕ) → JoinedAt (suc v) [] (tree_from 256 s (root_version s v) []) (tree_from 256 s 0 [])
  nothing_joined v w q m = absurd (subst (λ t. NodeOf w q t []) (no_version 256 s []) m)

  joined_is : (v : ℕ) → JoinedAt (suc v) [] (tree_from 256 s (root_version s v) []) (tree_from 256 s (root_version s (suc v)) []) ≡ Joins s v
  joined_is v = sym (ap₂ (JoinedAt (suc v) []) (read_root_lem s z 256 refl v) (read_root_lem s z 256 refl (suc v)))

  -- a chain with one version before it
  pub chain_longer : (f n : ℕ) → Chain leaf_hash inner_hash s (suc f) n → Good leaf_hash inner_hash s f → Joins s f → Chain leaf_hash inner_hash s f (suc n)
  chain_longer f n c g j = record { good = λ v a b. good v a b _ refl; joins = λ v a b. joins v a b _ refl }
    where
      good : (v : ℕ) → f ≤ v → v ≤ f + suc n → (k : Bool) → leb v f ≡ k → Good leaf_hash inner_hash s v
      good v a b true e = let l = leb-true v f e in subst (Good leaf_hash inner_hash s) (omega arith) g
      good v a b false e = c.good v (leb-false v f e) (omega arith)

      joins : (v : ℕ) → f ≤ v → v < f + suc n → (k : Bool) → leb v f ≡ k → Joins s v
      joins v a b true e = let l = leb-true v f e in subst (Joins s) (omega arith) j
      joins v a b false e = c.joins v (leb-false v f e) (omega arith)

  -- the test passes exactly for a chain
  pub test_chain : (f n : ℕ) → run_test leaf_hash inner_hash s f n ≡ true → Chain leaf_hash inner_hash s f n
  test_chain f zero h =
      let g = (next_into f 0 (floor s f 0) (none_next f) (steep_floor s z f 0) h).0 in
      record { good = λ v a b. subst (Good leaf_hash inner_hash s) (omega arith) g; joins = λ v a b. absurd (omega arith) }
  test_chain f (suc n) h =
      let x = run_test leaf_hash inner_hash s (suc f) n in
      let y = joins_next leaf_hash inner_hash s f (root_version s (suc f)) (floor s f (suc n)) in
      let c = test_chain (suc f) n (and_left x y h) in
      let k = next_into f (root_version s (suc f)) (floor s f (suc n)) (good_right (suc f) (c.good (suc f) (omega arith) (omega arith))) (steep_floor s z f (suc n)) (and_right x y h) in
      chain_longer f n c k.0 (subst (λ T. T) (joined_is f) k.1)

  chain_test : (f n : ℕ) → Chain leaf_hash inner_hash s f n → run_test leaf_hash inner_hash s f n ≡ true
  chain_test f zero c = next_back f 0 (floor s f 0) (none_next f) (c.good f (omega arith) (omega arith)) (nothing_joined f) (chain_floor f 0 c)
  chain_test f (suc n) c =
      both _ _ (chain_test (suc f) n (chain_shrinks leaf_hash inner_hash s f (suc n) (suc f) n (omega arith) (omega arith) c))
      (next_back f (root_version s (suc f)) (floor s f (suc n)) (good_right (suc f) (c.good (suc f) (omega arith) (omega arith)))
      (c.good f (omega arith) (omega arith)) (subst (λ T. T) (sym (joined_is f)) (c.joins f (omega arith) (omega arith))) (chain_floor f (suc n) c))

module _ (leaf_hash inner_hash : Bytes → Bytes → Bytes) (s : List Slot) where
  -- the test decides runs
  pub test_decides_run : (f n : ℕ) → Readable s (f + n) → (run_test leaf_hash inner_hash s f n ≡ true) ↔ Run leaf_hash inner_hash s f n
  test_decides_run f n z = (
    λ h. chain_run leaf_hash inner_hash s f n z (test_chain leaf_hash inner_hash s z.formed f n h),
    λ r. chain_test leaf_hash inner_hash s z.formed f n (run_joins leaf_hash inner_hash s f n r),
  )

  module _ (oldest latest : ℕ) (z : Readable s latest) where
    -- a run that ends at latest
    abbrev Ends : ℕ → Type 0
    Ends f = Longest leaf_hash inner_hash s oldest latest f (latest - f)

    run_of : (f m : ℕ) → f + m ≡ latest → run_test leaf_hash inner_hash s f m ≡ true → Run leaf_hash inner_hash s f (latest - f)
    run_of f m e h =
        let k : latest - f ≡ m = omega arith in
        rw k ((test_decides_run f m (subst (Readable s) (sym e) z)).0 h)

    -- a run that begins earlier passes the test where this one begins
    passes_later : (f m g n : ℕ) → f + m ≡ latest → g + n ≡ latest → f ≤ g → Run leaf_hash inner_hash s f m →
        run_test leaf_hash inner_hash s g n ≡ true
    passes_later f m g n e k l r =
        chain_test leaf_hash inner_hash s z.formed g n
        (chain_shrinks leaf_hash inner_hash s f m g n l (k ∙ sym e) (run_joins leaf_hash inner_hash s f m r))

    -- a run that no version before it joins is the longest
    pub ends_here : (u m : ℕ) → suc u + m ≡ latest → oldest ≤ suc u → run_test leaf_hash inner_hash s (suc u) m ≡ true →
        joins_next leaf_hash inner_hash s u (root_version s (suc u)) (floor s u (suc m)) ≡ false → Ends (suc u)
    ends_here u m e k h g = record {
      ends = omega arith;
      kept = k;
      run = run_of (suc u) m e h;
      longest = λ f n a b r. more f n a r _ refl;
    }
      where
        more : (f n : ℕ) → f + n ≡ latest → Run leaf_hash inner_hash s f n → (c : Bool) → leb (suc u) f ≡ c → suc u ≤ f
        more f n a r true c = leb-true (suc u) f c
        more f n a r false c =
            let l = leb-false (suc u) f c in
            let t = passes_later f n u (suc m) a (omega arith) (omega arith) r in
            absurd (false≢true (sym g ∙ and_right (run_test leaf_hash inner_hash s (suc u) m) (joins_next leaf_hash inner_hash s u (root_version s (suc u)) (floor s u (suc m))) t))

    -- one that begins at oldest is, too
    pub ends_oldest : (m : ℕ) → oldest + m ≡ latest → run_test leaf_hash inner_hash s oldest m ≡ true → Ends oldest
    ends_oldest m e h = record { ends = omega arith; kept = omega arith; run = run_of oldest m e h; longest = λ f n a b r. b }

    -- where latest alone is no run, none ends there
    pub no_run : run_test leaf_hash inner_hash s latest 0 ≡ false → (f m : ℕ) → f + m ≡ latest → Run leaf_hash inner_hash s f m → ⊥
    no_run e f m a r = true≢false (sym (passes_later f m latest 0 a (omega arith) (omega arith) r) ∙ e)

    back_longest : (k m : ℕ) → oldest + k + m ≡ latest → run_test leaf_hash inner_hash s (oldest + k) m ≡ true →
        Ends (back_from leaf_hash inner_hash s oldest k m)
    back_longest zero m e h = ends_oldest m (omega arith) (subst (λ f. run_test leaf_hash inner_hash s f m ≡ true) (omega arith) h)
    back_longest (suc k) m e h = go _ refl (λ h. back_longest k (suc m) (omega arith) h)
      where
        here : run_test leaf_hash inner_hash s (suc (oldest + k)) m ≡ true
        here = subst (λ f. run_test leaf_hash inner_hash s f m ≡ true) (omega arith) h

        go : (b : Bool) →
            joins_next leaf_hash inner_hash s (oldest + k) (root_version s (suc (oldest + k))) (floor s (oldest + k) (suc m)) ≡ b →
            (run_test leaf_hash inner_hash s (oldest + k) (suc m) ≡ true → Ends (back_from leaf_hash inner_hash s oldest k (suc m))) →
            Ends (cond b (back_from leaf_hash inner_hash s oldest k (suc m)) (oldest + suc k))
        go true g ih = ih (both _ _ here g)
        go false g ih = subst Ends (omega arith) (ends_here (oldest + k) m (omega arith) (omega arith) here g)

    -- the first version found is that of the longest run; where none is found there is no run
    abbrev Found : Option ℕ → Type 0
    Found none = (f m : ℕ) → f + m ≡ latest → Run leaf_hash inner_hash s f m → ⊥
    Found (some f) = Ends f

    pub longest_run : oldest ≤ latest → Found (first_of_run leaf_hash inner_hash s oldest latest)
    unfolding first_of_run
    longest_run l = go _ refl
      where
        go : (b : Bool) → run_test leaf_hash inner_hash s latest 0 ≡ b →
            Found (cond b (some (back_from leaf_hash inner_hash s oldest (latest - oldest) 0)) none)
        go true e = back_longest (latest - oldest) 0 (omega arith) (subst (λ f. run_test leaf_hash inner_hash s f 0 ≡ true) (omega arith) e)
        go false e = no_run e

-- there is one longest run
pub one_longest : (leaf_hash inner_hash : Bytes → Bytes → Bytes) (s : List Slot) (oldest latest f m g n : ℕ) →
    Longest leaf_hash inner_hash s oldest latest f m → Longest leaf_hash inner_hash s oldest latest g n → (f ≡ g) × (m ≡ n)
one_longest leaf_hash inner_hash s oldest latest f m g n a b =
    let i = a.longest g n b.ends b.kept b.run in
    let j = b.longest f m a.ends a.kept a.run in
    let x = a.ends in
    let y = b.ends in
    (omega arith, omega arith)
