-- Four bytes are enough for each figure: in a sound store a version has at most 16,384 records, no path more than 256 steps, and a range of 1,024 versions
-- at most 16,384 times 1,024 records. Assumes nothing.
use Prim.Native.Nat.{ℕ, zero, suc, ◌+◌, ◌*◌, ◌-◌, max, ◌<◌, ◌≤◌}
use native.Mathlib.Omega.{arith}
use mathlib.Core.Path.{◌≡◌, refl, ap, sym, ◌∙◌}
use mathlib.Core.Logic.{inl, inr}
use mathlib.Core.Bool.{Bool, true, false, cond}
use mathlib.Core.List.{List, [], ◌∷◌}
use lib.ListN.{length}
use Rattle.terms.specs.Bits.{Bytes, left, right, Place, longer}
use Rattle.terms.proofs.Places.{length_longer}
use Rattle.terms.specs.Records.{Body, leaf_body, inner_body, Record, Slot, free, used, spoiled, Store}
use Rattle.meaning.specs.Tree.{VTree, vnone, vleaf, vinner}
use Rattle.meaning.specs.Store.{tree_at_version}
use Rattle.meaning.specs.Sound.{Kept, NodeOf, Sound}
use Rattle.histories.proofs.Theorems.{paths_have_at_most_256_steps}
use Rattle.quarter.specs.Figures.{figure, leaves, inners, longest, path_sum, Figures, figures_of, range_right, versions_from, versions, records_over, quarter_of}
use Rattle.quarter.specs.Living.{lives_in, body_adds, slot_lives, slot_adds, living_figures, living_records}
use Rattle.quarter.proofs.Theorems.{RangeRight, range_right_lem, living_counts, slot_added, slot_living}

-- no more records than slots
adds_one : (v : ℕ) (x : Slot) (f : Figures) → (slot_adds v x f).leaves + (slot_adds v x f).inners ≤ suc (f.leaves + f.inners)
adds_one v free f = omega arith
adds_one v (spoiled x) f = omega arith
adds_one v (used r) f = go (lives_in v v r) r.body
  where
    go : (b : Bool) (o : Body) → (cond b (body_adds (length r.place) o f) f).leaves + (cond b (body_adds (length r.place) o f) f).inners ≤ suc (f.leaves + f.inners)
    go false o = omega arith
    go true (leaf_body k x) = omega arith
    go true (inner_body l q) = omega arith

living_few : (v : ℕ) (s : List Slot) → (living_figures v s).leaves + (living_figures v s).inners ≤ length s
unfolding living_figures
living_few v [] = omega arith
living_few v (x ∷ s) =
    let e = slot_added v x s in
    omega (arith, ap (λ (f : Figures). f.leaves + f.inners) e, adds_one v x (living_figures v s), living_few v s)

one_at_most : (b : Bool) → cond b 1 0 ≤ 1
one_at_most false = omega arith
one_at_most true = omega arith

-- a leaf's path has as many steps as its place has bits, and the sum of path lengths is at most 256 for each leaf
longest_at_most : (n : ℕ) (p : Place) (t : VTree) → length p ≡ n → ((w : ℕ) (q : Place) → NodeOf w q t p → length q ≤ 256) → figure max (λ k. k) 0 n t ≤ 256
longest_at_most n p vnone e h = omega arith
longest_at_most n p (vleaf v g) e h = omega (arith, h v p (refl, refl))
longest_at_most n p (vinner v l r) e h =
    let a = longest_at_most (suc n) (longer left p) l (length_longer left p ∙ ap suc e) (λ w q x. h w q (inr (inl x))) in
    let b = longest_at_most (suc n) (longer right p) r (length_longer right p ∙ ap suc e) (λ w q x. h w q (inr (inr x))) in
    omega arith

sum_at_most : (n : ℕ) (t : VTree) → figure max (λ k. k) 0 n t ≤ 256 → figure ◌+◌ (λ k. k) 0 n t ≤ 256 * figure ◌+◌ (λ k. 1) 0 n t
sum_at_most n vnone h = omega arith
sum_at_most n (vleaf v g) h = omega arith
sum_at_most n (vinner v l r) h = omega (arith, sum_at_most (suc n) l (omega arith), sum_at_most (suc n) r (omega arith))

module _ (leaf_hash inner_hash : Bytes → Bytes → Bytes) (st : Store) (sound : Sound leaf_hash inner_hash st) (first last : ℕ) (right : range_right st first last ≡ true) where
  range : RangeRight st first last
  range = range_right_lem st first last right

  -- The four numbers of a version of the range.
  pub record Small (f : Figures) : Type 0 where
    pub records : f.leaves + f.inners ≤ 16384
    pub longest : f.longest ≤ 256
    pub path_sum : f.path_sum ≤ 4194304

  pub figures_are_small : (v : ℕ) → first ≤ v → v ≤ last → Small (figures_of (tree_at_version st v))
  unfolding leaves longest path_sum
  figures_are_small v a b =
      let few = living_few v st.slots in
      let same = (living_counts st first last leaf_hash inner_hash sound right).0 v a b in
      let kept : Kept st v = (omega (arith, range.first_kept_lem.0), omega (arith, range.last_kept.1)) in
      let long = longest_at_most 0 [] (tree_at_version st v) refl (paths_have_at_most_256_steps leaf_hash inner_hash st sound v kept) in
      let records : leaves (tree_at_version st v) + inners (tree_at_version st v) ≤ 16384 =
      omega (arith, ap (λ (f : Figures). f.leaves + f.inners) same, few, sound.size.1) in
      record { records = records; longest = long; path_sum = omega (arith, sum_at_most 0 (tree_at_version st v) long, records) }

  -- Distinct records of a range: no more than slots.
  pub distinct_is_small : (quarter_of st first last).distinct ≤ 16384
  unfolding living_records
  distinct_is_small =
      omega (arith, (living_counts st first last leaf_hash inner_hash sound right).1, in_slots st.slots, sound.size.1)
    where
      in_slots : (s : List Slot) → living_records first last s ≤ length s
      in_slots [] = omega arith
      in_slots (x ∷ s) = omega (arith, slot_living first last x s, one_at_most (slot_lives first last x), in_slots s)

  -- The sum of records over 1,024 versions: at most 2^24.
  pub records_are_small : (quarter_of st first last).records ≤ 16777216
  unfolding quarter_of versions
  records_are_small =
      omega (arith, over first (suc last - first) (omega arith) (omega (arith, range.ordered)), range.few, range.ordered)
    where
      over : (v n : ℕ) → first ≤ v → v + n ≤ suc last → records_over st (versions_from v n) ≤ 16384 * n
      over v zero a b = omega arith
      over v (suc n) a b = omega (arith, (figures_are_small v a (omega arith)).records, over (suc v) n (omega arith) (omega arith))
