-- The theorems on what changed between two kept versions of a sound store: the list, the list the other way round, equal versions, and the
-- visits. Their trees are shaped, so their grants ascend. Assumes nothing.
use Prim.Native.Nat.{ℕ, ◌+◌, ◌*◌, ◌≤◌}
use native.Mathlib.Omega.{arith}
use mathlib.Core.Path.{◌≡◌, refl, ap, ◌∙◌}
use mathlib.Core.Bool.{false}
use mathlib.Core.List.{List, [], ◌∷◌, map}
use lib.ListN.{length}
use Rattle.terms.specs.Bits.{Bytes}
use Rattle.terms.specs.Records.{Store}
use Rattle.meaning.specs.Tree.{unversioned, grants_in}
use Rattle.meaning.specs.Store.{root_of, tree_found, tree_from, tree_at_version}
use Rattle.meaning.specs.Sound.{Sound, Kept}
use Rattle.meaning.proofs.Runs.{Ascending}
use Rattle.meaning.proofs.Shaped.{shaped_ascending}
use Rattle.histories.proofs.Trees.{kept_shaped}
use Rattle.histories.proofs.Whole.{sound_whole}
use Rattle.changed.specs.Changes.{Change, change_key, changed, undone, items}
use Rattle.changed.specs.Visits.{visits}
use Rattle.changed.specs.Compare.{changes_of, visits_of}
use Rattle.changed.specs.Claims.{WhatChanged}
use Rattle.changed.proofs.Parts.{part_changed, changed_order}
use Rattle.changed.proofs.Lists.{changed_same, changed_undone, changed_applied}
use Rattle.changed.proofs.Visits.{beyond, visits_comm, visits_same, visits_by_slots, at_most_all}
use Rattle.changed.proofs.Walk.{stands_sits, listed_changed}
use Rattle.changed.proofs.Few.{listed_counted}

at_most : {n k : ℕ} → n ≤ 1 + 2 * k → k ≤ 16384 → n ≤ 32769
at_most h l = omega arith

in_slots : {x y k n : ℕ} → x ≡ y → x ≤ 0 + 0 + k → k ≤ n → n ≤ 16384 → y ≤ 16384
in_slots e h l m = omega arith

same_root_same_tree : (st : Store) (v w : ℕ) → root_of st v ≡ root_of st w → tree_at_version st v ≡ tree_at_version st w
unfolding tree_at_version
same_root_same_tree st v w e = ap (λ o. tree_found o (λ b x. tree_from 255 st.slots x (b ∷ []))) e

module _ (leaf_hash inner_hash : Bytes → Bytes → Bytes) (st : Store) (sound : Sound leaf_hash inner_hash st) where
  ascends : (v : ℕ) → Kept st v → Ascending (grants_in (tree_at_version st v))
  ascends v k = shaped_ascending [] (unversioned (tree_at_version st v)) (kept_shaped leaf_hash inner_hash st (sound_whole leaf_hash inner_hash st sound) v k)

  -- Equal versions give none.
  pub equal_versions_give_none : (v : ℕ) → Kept st v → changes_of st v v ≡ []
  unfolding changes_of
  equal_versions_give_none v k = changed_same (grants_in (tree_at_version st v)) (ascends v k)

  -- Versions between two publishings share a root with the earlier one (2026-13): one visit, no record.
  pub versions_that_share_a_root_give_none : (first second : ℕ) → Kept st second → root_of st first ≡ root_of st second →
      (visits_of st first second ≡ 1) × (items (changes_of st first second) ≡ [])
  unfolding visits_of changes_of
  versions_that_share_a_root_give_none first second k e =
      let same = same_root_same_tree st first second e in (
        ap (λ t. visits t (tree_at_version st second)) same ∙ visits_same (tree_at_version st second),
        ap (λ t. items (changed (grants_in t) (grants_in (tree_at_version st second)))) same ∙ ap items (equal_versions_give_none second k),
      )

  module _ (first second : ℕ) (a : Kept st first) (b : Kept st second) where
    -- The list says what changed, in key order, each key once; applied to the first version's grants it gives the second's.
    pub list_is_what_changed : WhatChanged (grants_in (tree_at_version st first)) (grants_in (tree_at_version st second)) (changes_of st first second)
    unfolding changes_of
    list_is_what_changed =
        let x = grants_in (tree_at_version st first) in
        let y = grants_in (tree_at_version st second) in
        record {
          exact = λ k. part_changed k x y (ascends first a) (ascends second b);
          ordered = changed_order x y (ascends first a) (ascends second b);
          applied = changed_applied x y (ascends first a) (ascends second b);
        }

    -- First and second swapped give the list that undoes it.
    pub swapped_undoes : changes_of st second first ≡ map undone (changes_of st first second)
    unfolding changes_of
    swapped_undoes = changed_undone (grants_in (tree_at_version st first)) (grants_in (tree_at_version st second)) (ascends first a) (ascends second b)

    -- Visits are at most 32,769.
    pub visits_at_most_32769 : visits_of st first second ≤ 32769
    unfolding visits_of
    visits_at_most_32769 =
        let w = sound_whole leaf_hash inner_hash st sound in
        at_most (visits_by_slots leaf_hash inner_hash st (tree_at_version st first) (tree_at_version st second) (w.stands first a) (w.stands second b)) w.size.1

    -- The list has at most 16,384 records: no more than the store has slots.
    pub list_at_most_16384 : length (items (changes_of st first second)) ≤ 16384
    unfolding changes_of
    list_at_most_16384 =
        let w = sound_whole leaf_hash inner_hash st sound in
        let t = tree_at_version st first in
        let u = tree_at_version st second in
        let few = listed_counted leaf_hash inner_hash st 256 0 [] false false t u (w.stands first a) (w.stands second b) in
        let same = listed_changed leaf_hash inner_hash st w.formed 256 [] t u refl
        (stands_sits leaf_hash inner_hash st w.formed [] t (w.stands first a)) (stands_sits leaf_hash inner_hash st w.formed [] u (w.stands second b))
        in
        in_slots (ap (λ (cs : List Change). length (items cs)) same) few (at_most_all (beyond []) st.slots) w.size.1

-- Visits are the same for second and first.
pub visits_symmetric : (st : Store) (first second : ℕ) → visits_of st first second ≡ visits_of st second first
unfolding visits_of
visits_symmetric st first second = visits_comm (tree_at_version st first) (tree_at_version st second)
