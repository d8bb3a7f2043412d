-- In a sound store the figures of a range are counts over the slots, by lifetimes, so no tree is walked; and what the figures of a tree have to do with
-- each other. Assumes nothing.
use Prim.Native.Nat.{ℕ, suc, ◌+◌, ◌-◌, ◌<◌, ◌≤◌}
use native.Mathlib.Omega.{arith}
use mathlib.Core.Path.{◌≡◌, refl, ap, ap₂, sym, ◌∙◌}
use mathlib.Core.Bool.{Bool, true, false, cond, ◌&&◌}
use mathlib.Core.List.{List, [], ◌∷◌, ◌++◌}
use lib.ListN.{length, length-append}
use lib.Dec.{leb, ltb}
use borrow.Author.Tests.{leb-true, ltb-true}
use Rattle.terms.specs.Bits.{Bytes, left, right, Place, longer}
use Rattle.terms.specs.Records.{Body, leaf_body, inner_body, Record, Slot, free, used, spoiled, Store}
use Rattle.terms.proofs.Tests.{and_left, and_right}
use Rattle.meaning.specs.Tree.{VTree, vnone, vleaf, vinner, grants_in}
use Rattle.meaning.specs.Store.{tree_at_version}
use Rattle.meaning.specs.Sound.{Kept, Sound}
use Rattle.meaning.specs.Calls.{is_kept}
use Rattle.histories.proofs.Whole.{sound_whole}
use Rattle.quarter.specs.Figures.{figure, leaves, inners, Figures, figures_of, most_versions, range_right, nodes, quarter_of}
use Rattle.quarter.specs.Living.{lives_in, body_adds, slot_lives, slot_adds, living_figures, living_records}
use Rattle.quarter.proofs.Trees.{figures_live}
use Rattle.quarter.proofs.Ranges.{distinct_live}

-- What the test of a range says.
pub record RangeRight (st : Store) (first last : ℕ) : Type 0 where
  pub first_kept_lem : Kept st first
  pub last_kept : Kept st last
  pub ordered : first ≤ last
  pub few : last < first + most_versions

is_kept_lem : (st : Store) (v : ℕ) → is_kept st v ≡ true → Kept st v
unfolding is_kept
is_kept_lem st v e = (leb-true st.oldest v (and_left _ _ e), leb-true v st.latest (and_right (leb st.oldest v) _ e))

module _ (st : Store) (first last : ℕ) where
  pub range_right_lem : range_right st first last ≡ true → RangeRight st first last
  unfolding range_right
  range_right_lem e =
      let a = and_left (is_kept st first && is_kept st last && leb first last) _ e in
      let b = and_left (is_kept st first && is_kept st last) _ a in
      let o = leb-true first last (and_right (is_kept st first && is_kept st last) _ a) in
      let f = ltb-true (last - first) most_versions (and_right (is_kept st first && is_kept st last && leb first last) _ e) in
      record {
        first_kept_lem = is_kept_lem st first (and_left (is_kept st first) _ b);
        last_kept = is_kept_lem st last (and_right (is_kept st first) _ b);
        ordered = o;
        few = omega (arith, o, f);
      }

  -- For each version of the range the four numbers, and over the range the distinct records.
  pub living_counts : (leaf_hash inner_hash : Bytes → Bytes → Bytes) → Sound leaf_hash inner_hash st → range_right st first last ≡ true →
      ((v : ℕ) → first ≤ v → v ≤ last → living_figures v st.slots ≡ figures_of (tree_at_version st v))
      × (living_records first last st.slots ≡ (quarter_of st first last).distinct)
  unfolding quarter_of
  living_counts leaf_hash inner_hash s e =
      let w = sound_whole leaf_hash inner_hash st s in
      let r = range_right_lem e in (
        λ v f g. figures_live leaf_hash inner_hash st w v (omega (arith, r.first_kept_lem.0), omega (arith, r.last_kept.1)),
        distinct_live leaf_hash inner_hash st w first last r.first_kept_lem r.last_kept r.ordered,
      )

-- The leaves of a version are as many as its grants.
pub leaves_are_grants : (t : VTree) → leaves t ≡ length (grants_in t)
unfolding leaves
leaves_are_grants t = go 0 t
  where
    go : (n : ℕ) (t : VTree) → figure ◌+◌ (λ n. 1) 0 n t ≡ length (grants_in t)
    go n vnone = refl
    go n (vleaf v g) = refl
    go n (vinner v l r) = omega (arith, go (suc n) l, go (suc n) r, length-append (grants_in l) (grants_in r))

-- Leaves and inner nodes are its records.
pub records_are_nodes : (t : VTree) → leaves t + inners t ≡ length (nodes [] t)
unfolding leaves inners
records_are_nodes t = go 0 [] t
  where
    go : (n : ℕ) (p : Place) (t : VTree) → figure ◌+◌ (λ n. 1) 0 n t + figure ◌+◌ (λ n. 0) 1 n t ≡ length (nodes p t)
    go n p vnone = refl
    go n p (vleaf v g) = refl
    go n p (vinner v l r) =
        omega (arith, go (suc n) (longer left p) l, go (suc n) (longer right p) r, length-append (nodes (longer left p) l) (nodes (longer right p) r))

-- Slot by slot: the four numbers of more slots, and the records of more slots.
abbrev pub four : ℕ → ℕ → ℕ → ℕ → Figures
four a b c d = record { leaves = a; inners = b; longest = c; path_sum = d }

pub same_four : {a b c d a' b' c' d' : ℕ} → a ≡ a' → b ≡ b' → c ≡ c' → d ≡ d' → four a b c d ≡ four a' b' c' d'
same_four {a} {b} {c} {d} {a'} {b'} {c'} {d'} e f g h = ap₂ (λ x y. four x y c d) e f ∙ ap₂ (λ x y. four a' b' x y) g h

pub slot_added : (v : ℕ) (x : Slot) (s : List Slot) → slot_adds v x (living_figures v s) ≡ living_figures v (x ∷ s)
unfolding living_figures
slot_added v free s = refl
slot_added v (spoiled x) s = refl
slot_added v (used r) s = go (lives_in v v r) refl r.body refl
  where
    go : (b : Bool) → lives_in v v r ≡ b → (o : Body) → r.body ≡ o →
        cond (lives_in v v r) (body_adds (length r.place) r.body (living_figures v s)) (living_figures v s) ≡ living_figures v (used r ∷ s)
    go false e o f = rw e (same_four (omega arith) (omega arith) (omega arith) (omega arith))
    go true e (leaf_body k x) f = rw (e, f) (same_four (omega arith) (omega arith) refl refl)
    go true e (inner_body l q) f = rw (e, f) (same_four (omega arith) (omega arith) (omega arith) (omega arith))

pub slot_living : (first last : ℕ) (x : Slot) (s : List Slot) → living_records first last (x ∷ s) ≡ cond (slot_lives first last x) 1 0 + living_records first last s
unfolding living_records
slot_living first last free s = omega arith
slot_living first last (used r) s = refl
slot_living first last (spoiled x) s = omega arith
