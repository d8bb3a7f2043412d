-- What apply and prune answer and leave, by cases; and that an accepted call keeps the store sound and does what is claimed.
-- Assumes nothing.
use Prim.Native.Nat.{ℕ, ◌-◌, ◌≤◌, ◌<◌}
use native.Mathlib.Omega.{arith}
use mathlib.Core.Path.{◌≡◌, refl, ap, sym, ◌∙◌, subst}
use mathlib.Core.Bool.{Bool, true, false, cond, ◌&&◌}
use mathlib.Core.List.{List, []}
use mathlib.Core.Option.{some}
use lib.ListN.{length, length-map}
use lib.Dec.{leb, ltb}
use borrow.Author.Tests.{leb-true, leb-false, ltb-true, ltb-false}
use Rattle.terms.specs.Bits.{Bytes, All}
use Rattle.terms.specs.Records.{Ask, Record, Store}
use Rattle.terms.specs.Form.{AskForm, top32}
use Rattle.meaning.specs.Tree.{VTree, unversioned, grants_in, hash, next_tree}
use Rattle.meaning.specs.Store.{tree_at_version, free_slots, pruned, on_record, prune_record, records_of, new_records, settled}
use Rattle.meaning.specs.Sound.{Kept, NodeOf, Hashes32, Sound}
use Rattle.meaning.specs.Calls.{accepted, Result, refuse, is_kept, Applied, ascending, prune, publish, apply_as, apply}
use Rattle.histories.specs.Claims.{AfterApply, AfterPrune}
use Rattle.histories.proofs.Writing.{free_written, length_written, free_pruned}
use Rattle.histories.proofs.Whole.{Whole, sound_whole, whole_sound}
use Rattle.histories.proofs.Pruning.{cut, cut_tree, cut_whole}
use Rattle.histories.proofs.Growing.{Grown, next_grown, next_grants}
use Rattle.histories.proofs.Trees.{kept_shaped}
use Rattle.histories.proofs.Applying.{ends_at_lem, stays_at_lem, tree_old, tree_between, tree_new, settled_whole}

-- prune

abbrev freed_by : ℕ → Store → ℕ
freed_by n st = free_slots (pruned n st.slots) - free_slots st.slots

pub prune_cases : (P : Result ℕ → Type 0) (n : ℕ) (st : Store) → ((Kept st n → ⊥) → P (refuse 8 st)) →
    (Kept st n → P (record { answer = accepted (freed_by n st); store = cut n st })) → P (prune n st)
unfolding prune cut is_kept
prune_cases P n st f g = go (leb st.oldest n) (leb n st.latest) refl refl
  where
    go : (a b : Bool) → leb st.oldest n ≡ a → leb n st.latest ≡ b →
        P (cond (a && b) (record { answer = accepted (freed_by n st); store = cut n st }) (refuse 8 st))
    go true true e h = g (leb-true st.oldest n e, leb-true n st.latest h)
    go true false e h = f (λ k. omega (arith, leb-false n st.latest h))
    go false b e h = f (λ k. omega (arith, leb-false st.oldest n e))

module _ (leaf_hash inner_hash : Bytes → Bytes → Bytes) where
  pub cut_after : (n : ℕ) (st : Store) → Sound leaf_hash inner_hash st → Kept st n →
      AfterPrune leaf_hash inner_hash n st (freed_by n st) (cut n st)
  unfolding cut
  cut_after n st s k =
      let w = sound_whole leaf_hash inner_hash st s in
      record {
        sound = whole_sound leaf_hash inner_hash (cut n st) (cut_whole leaf_hash inner_hash st w n k);
        capacity = length-map st.slots (on_record (prune_record n));
        oldest = refl;
        latest = refl;
        trees = cut_tree leaf_hash inner_hash st w n k;
        count = omega (arith, free_pruned n st.slots);
      }

  -- apply

  -- the tree that a batch makes as the version of a number, the records it needs, the answer and the store that it leaves
  abbrev pub tree_made : ℕ → List Ask → Store → VTree
  tree_made number batch st = next_tree number (tree_at_version st st.latest) batch

  abbrev pub records_needed : ℕ → List Ask → Store → List Record
  records_needed number batch st = new_records leaf_hash inner_hash number (tree_made number batch st)

  abbrev pub answer_to : ℕ → List Ask → Store → Applied
  answer_to number batch st = record {
    version = number;
    root = hash leaf_hash inner_hash (unversioned (tree_made number batch st));
    count = length (records_needed number batch st);
  }

  abbrev pub store_after : ℕ → List Ask → Store → Store
  store_after number batch st =
      settled leaf_hash inner_hash number (tree_at_version st st.latest) (tree_made number batch st) st

  pub apply_cases : (P : Result Applied → Type 0) (number : ℕ) (batch : List Ask) (st : Store) →
      (ascending batch ≡ false → P (refuse 5 st)) →
      (ascending batch ≡ true → number ≤ st.latest → P (refuse 18 st)) →
      (ascending batch ≡ true → st.latest < number → free_slots st.slots < length (records_needed number batch st) → P (refuse 7 st)) →
      (ascending batch ≡ true → st.latest < number → length (records_needed number batch st) ≤ free_slots st.slots →
      P (record { answer = accepted (answer_to number batch st); store = store_after number batch st })) →
      P (apply leaf_hash inner_hash number (some batch) st)
  unfolding apply_as publish
  apply_cases P number batch st f₅ f₁₈ f₇ g = order (ascending batch) refl
    where
      space : ascending batch ≡ true → st.latest < number →
          (b : Bool) → ltb (free_slots st.slots) (length (records_needed number batch st)) ≡ b →
          P (cond b (refuse 7 st) (record { answer = accepted (answer_to number batch st); store = store_after number batch st }))
      space o m true e = f₇ o m (ltb-true _ _ e)
      space o m false e = g o m (ltb-false _ _ e)

      above : ascending batch ≡ true → (b : Bool) → ltb st.latest number ≡ b →
          P (cond b (apply_as leaf_hash inner_hash number batch st) (refuse 18 st))
      above o true e = space o (ltb-true st.latest number e) _ refl
      above o false e = f₁₈ o (ltb-false st.latest number e)

      order : (b : Bool) → ascending batch ≡ b →
          P (cond b (cond (ltb st.latest number) (apply_as leaf_hash inner_hash number batch st) (refuse 18 st)) (refuse 5 st))
      order true e = above e _ refl
      order false e = f₅ e

  pub settled_after : Hashes32 leaf_hash → Hashes32 inner_hash → (number : ℕ) (batch : List Ask) (st : Store) → Sound leaf_hash inner_hash st →
      number ≤ top32 → All AskForm batch → st.latest < number → length (records_needed number batch st) ≤ free_slots st.slots →
      AfterApply leaf_hash inner_hash number batch st (answer_to number batch st) (store_after number batch st)
  unfolding settled
  settled_after lh ih number batch st s small ok above room =
      let w : Whole leaf_hash inner_hash st = sound_whole leaf_hash inner_hash st s in
      let old : VTree = tree_at_version st st.latest in
      let made : VTree = tree_made number batch st in
      let kept : Kept st st.latest = (s.header.0, omega arith) in
      let shape = kept_shaped leaf_hash inner_hash st w st.latest kept in
      let grown : Grown number old made = next_grown number old shape batch ok in
      let tree : tree_at_version (store_after number batch st) number ≡ made =
      tree_new leaf_hash inner_hash lh ih st w number above small made grown room in
      let before : List Record = records_of leaf_hash inner_hash old in
      let after : List Record = records_of leaf_hash inner_hash made in
      record {
        sound = whole_sound leaf_hash inner_hash (store_after number batch st)
            (settled_whole leaf_hash inner_hash lh ih st w number above small made grown room);
        capacity = length_written (records_needed number batch st) number before after st.slots;
        oldest = refl;
        latest = refl;
        above = above;
        tree = tree;
        grants = ap grants_in tree ∙ next_grants number old shape batch ok;
        older = tree_old leaf_hash inner_hash lh ih st w number above small made grown room;
        between = tree_between leaf_hash inner_hash lh ih st w number above small made grown room;
        ends = λ i r a n m.
            ends_at_lem leaf_hash inner_hash lh ih st w number above small made grown room i r a n
            (λ k. m (subst (λ t. NodeOf r.version r.place t []) (sym tree) k));
        stays = λ i r a f.
            stays_at_lem leaf_hash inner_hash lh ih st w number above small made grown room i r a
            (λ n. subst (λ t. NodeOf r.version r.place t []) tree (f n));
        version = refl;
        root = ap (λ t. hash leaf_hash inner_hash (unversioned t)) (sym tree);
        count = free_written (records_needed number batch st) number before after st.slots room;
      }
