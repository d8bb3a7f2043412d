-- The rescued store rescued again: with its own oldest, or with the oldest that it was rescued with, its versions are the longest run, and it
-- stays as it is. A version before its first would have a root of the first's time, and would have joined in the source too. Assumes nothing.
use Prim.Native.Nat.{ℕ, zero, suc, ◌+◌, ◌-◌, ◌≤◌, ◌<◌}
use native.Mathlib.Omega.{arith}
use mathlib.Core.Path.{◌≡◌, refl, ap, sym, ◌∙◌, subst, subst₂}
use mathlib.Core.Logic.{◌⊎◌, inl, inr}
use mathlib.Core.Bool.{Bool, true, false}
use mathlib.Core.List.{List, [], ◌∷◌}
use mathlib.Core.Option.{some}
use lib.Dec.{leb}
use borrow.Author.Tests.{leb-true, leb-false}
use Rattle.terms.specs.declared.Form.TheVariants.{Counted as counted}
use Rattle.terms.specs.Bits.{Bytes}
use Rattle.terms.specs.Records.{Record, Slot, Store}
use Rattle.meaning.specs.Tree.{top_version}
use Rattle.meaning.specs.Store.{root_of, tree_found, tree_from, tree_at_version}
use Rattle.meaning.specs.Sound.{Kept, NodeOf, Lives, Sound}
use Rattle.meaning.proofs.Nodes.{node_top}
use Rattle.histories.proofs.Slots.{Has, find_has}
use Rattle.histories.proofs.Whole.{Lifetime, retired_later, not_retired, Whole, sound_whole}
use Rattle.rescue_rules.specs.Rescue.{source_root, source_tree, run_store, rescued, Run, Longest}
use Rattle.rescue_rules.specs.Joining.{Joins, Good, Chain}
use Rattle.rescue_laws.proofs.Roots.{root_at_lem, root_up_to_lem, root_place}
use Rattle.rescue_laws.proofs.Trees.{root_node}
use Rattle.rescue_laws.proofs.Runs.{Readable, run_joins, chain_run, run_tree, root_is, chain_sound, run_shrinks}
use Rattle.rescue_laws.proofs.Decides.{chain_longer}
use Rattle.rescue_laws.proofs.Blocks.{same_block}
use Rattle.rescue_laws.proofs.Same.{Rooted, own_root, source_is, sound_stays, sound_longest}

-- the tree of a version is that of its root record
same_root : (s : List Slot) (u v : ℕ) → source_root s u ≡ source_root s v → source_tree s u ≡ source_tree s v
unfolding source_tree
same_root s u v e = ap (λ o. tree_found o (λ b w. tree_from 255 s w (b ∷ []))) e

root_top : (s : List Slot) (u : ℕ) (r : Record) → source_root s (suc u) ≡ some r → top_version (source_tree s (suc u)) ≡ r.version
root_top s u r e =
    (node_top r.version (source_tree s (suc u)) [] (root_node s (suc u) 0 (λ w q. 0) (suc u) (omega arith) (omega arith) r e)).1

same_low : {a b x : ℕ} → a ≡ b → b ≤ x → a ≤ x
same_low e l = omega arith

pub bounds : (s : List Slot) (f n : ℕ) → ((rescued s f n).oldest ≡ f) × ((rescued s f n).latest ≡ f + n)
unfolding rescued run_store
bounds s f n = (refl, refl)

module _ (leaf_hash inner_hash : Bytes → Bytes → Bytes) (s : List Slot) (oldest latest f n : ℕ) (z : Readable s latest)
    (l : Longest leaf_hash inner_hash s oldest latest f n)
  where
    abbrev st : Store
    st = rescued s f n

    z_run : Readable s (f + n)
    z_run = subst (Readable s) (sym l.ends) z

    chain : Chain leaf_hash inner_hash s f n
    chain = run_joins leaf_hash inner_hash s f n l.run

    -- the rescued store is sound
    rescued_form : st.form ≡ counted
    unfolding rescued run_store
    rescued_form = refl

    pub rescued_sound : Sound leaf_hash inner_hash st
    rescued_sound = chain_sound leaf_hash inner_hash s f n z_run chain

    -- each version kept has the tree that the source has for it
    pub rescued_tree : (v : ℕ) → f ≤ v → v ≤ latest → tree_at_version st v ≡ source_tree s v
    rescued_tree v a b = run_tree leaf_hash inner_hash s f n z_run chain v a (omega (arith, l.ends))

    -- and a root
    pub rescued_rooted : Rooted st
    rescued_rooted v k =
        let low : f ≤ v = omega (arith, (bounds s f n).0, k.0) in
        let high : v ≤ f + n = omega (arith, (bounds s f n).1, k.1) in
        let (r, e) = (chain.good v low high).root in
        (_, root_is leaf_hash inner_hash s f n z_run chain v low high r e)

    more_is : st.latest - st.oldest ≡ n
    more_is = let e = bounds s f n in omega (arith, e.0, e.1)

    -- rescued again it stays as it is
    pub rescued_stays : rescued st.slots f n ≡ st
    rescued_stays = subst₂ (λ x y. rescued st.slots x y ≡ st) (bounds s f n).0 more_is (sound_stays leaf_hash inner_hash st rescued_form rescued_sound rescued_rooted)

    -- its versions are the longest run from its first on
    pub again_own : Longest leaf_hash inner_hash st.slots f latest f n
    again_own =
        subst₂ (λ x y. Longest leaf_hash inner_hash st.slots f x f y) ((bounds s f n).1 ∙ l.ends) more_is
        (subst (λ x. Longest leaf_hash inner_hash st.slots x st.latest x (st.latest - st.oldest)) (bounds s f n).0
        (sound_longest leaf_hash inner_hash st rescued_form rescued_sound rescued_rooted))

    whole : Whole leaf_hash inner_hash st
    whole = sound_whole leaf_hash inner_hash st rescued_sound

    pub rescued_readable : Readable st.slots latest
    rescued_readable = record { size = whole.size; number = z.number; formed = whole.formed }

    -- a version before the first that joins in the target joins in the source
    module _ (u : ℕ) (e : f ≡ suc u) (low : oldest ≤ u) (run : Run leaf_hash inner_hash st.slots u (suc n)) where
      again : Chain leaf_hash inner_hash st.slots u (suc n)
      again = run_joins leaf_hash inner_hash st.slots u (suc n) run

      first_kept_lem : Kept st (suc u)
      first_kept_lem = let k = bounds s f n in (omega (arith, k.0, e), omega (arith, k.1, e))

      trees : source_tree st.slots (suc u) ≡ source_tree s (suc u)
      trees =
          source_is leaf_hash inner_hash st whole rescued_rooted (suc u) first_kept_lem
          ∙ rescued_tree (suc u) (omega (arith, e)) (omega (arith, e, l.ends))

      first_good : Good leaf_hash inner_hash s (suc u)
      first_good = chain.good (suc u) (omega (arith, e)) (omega (arith, e))

      -- the root of u in the target lives at the first version: it is the first version's root
      root_old : (r : Record) → source_root st.slots u ≡ some r → top_version (source_tree s (suc u)) ≤ u
      root_old r g =
          let h = find_has r.version [] st.slots r (root_at_lem st.slots u r g) in
          let d = root_up_to_lem st.slots u r g in
          let lives : Lives (suc u) r = (omega arith, not_retired (suc u) r (λ j. later r (whole.lifetimes r h.0) j)) in
          let m : NodeOf r.version [] (tree_at_version st (suc u)) [] =
          subst (λ p. NodeOf r.version p (tree_at_version st (suc u)) []) h.2 ((whole.exact (suc u) first_kept_lem r h.0).1 lives) in
          let t = (node_top r.version (tree_at_version st (suc u)) [] m).1 in
          same_low (sym (ap top_version (rescued_tree (suc u) (omega (arith, e)) (omega (arith, e, l.ends)))) ∙ t) d
        where
          later : (r : Record) → Lifetime st.oldest st.latest r → 1 ≤ r.retired → suc u < r.retired
          later r (inl i) j = absurd (omega arith)
          later r (inr i) j = omega (arith, i.1, (bounds s f n).0, e)

      -- u has the first version's root and tree, in the source
      top_low : top_version (source_tree s (suc u)) ≤ u
      top_low = let (r, g) = (again.good u (omega arith) (omega arith)).root in root_old r g

      source_root_lem : (r : Record) → source_root s (suc u) ≡ some r → source_root s u ≡ some r
      source_root_lem r g = same_block s u r g (same_low (sym (root_top s u r g)) top_low)

      source_same : source_tree s u ≡ source_tree s (suc u)
      source_same = let (r, g) = first_good.root in same_root s u (suc u) (source_root_lem r g ∙ sym g)

      -- and in the target
      target_same : source_tree st.slots u ≡ source_tree st.slots (suc u)
      target_same =
          let (r, g) = (again.good (suc u) (omega arith) (omega arith)).root in
          same_root st.slots u (suc u) (same_block st.slots u r g (same_low (sym (root_top st.slots u r g) ∙ ap top_version trees) top_low) ∙ sym g)

      good_before : Good leaf_hash inner_hash s u
      good_before = record {
        root = let (r, g) = first_good.root in (r, source_root_lem r g);
        stands = rw source_same first_good.stands;
        versions = λ w q m. (again.good u (omega arith) (omega arith)).versions w q (rw (target_same ∙ trees ∙ sym source_same) m);
      }

      too_long : ⊥
      too_long =
          let c = chain_longer leaf_hash inner_hash s z.formed u n (subst (λ x. Chain leaf_hash inner_hash s x n) e chain) good_before (λ w q m. inl (rw source_same m)) in
          let k : u + suc n ≡ latest = omega (arith, e, l.ends) in
          let y = l.longest u (suc n) k low (chain_run leaf_hash inner_hash s u (suc n) (subst (Readable s) (sym k) z) c) in
          omega (arith, e, y)

    -- its versions are the longest run from the oldest on that it was rescued with
    pub again_longest : Longest leaf_hash inner_hash st.slots oldest latest f n
    again_longest = record {
      ends = l.ends;
      kept = l.kept;
      run = again_own.run;
      longest = λ g m a b r. by g m a b r _ refl;
    }
      where
        by : (g m : ℕ) → g + m ≡ latest → oldest ≤ g → Run leaf_hash inner_hash st.slots g m → (k : Bool) → leb f g ≡ k → f ≤ g
        by g m a b r true k = leb-true f g k
        by g m a b r false k =
            let d = leb-false f g k in
            absurd (too_long (f - 1) (omega arith) (omega arith)
            (run_shrinks leaf_hash inner_hash st.slots g m (f - 1) (suc n) (omega arith) (omega (arith, l.ends)) (subst (Readable st.slots) (sym a) rescued_readable) r))
