-- A figure of a tree that stands is what the records that are its nodes give: each node is one record. So in a sound store a figure of a kept version's
-- tree is a count over the slots whose lifetime holds the version. Assumes nothing.
use Prim.Native.Nat.{ℕ, ◌+◌, ◌<◌, max}
use native.Mathlib.Omega.{arith}
use mathlib.Core.Path.{◌≡◌, refl, ap, ap₂, sym, ◌∙◌}
use mathlib.Core.Logic.{◌⊎◌, inl, inr}
use mathlib.Core.Bool.{Bool, true, false, cond, ◌||◌, or-true, true≢false}
use mathlib.Core.List.{List, [], ◌∷◌}
use lib.ListN.{length}
use lib.Dec.{leb}
use borrow.Author.Tests.{leb-true, le-leb, not-true}
use Rattle.terms.specs.Bits.{Bytes, Side, left, right, Place, longer}
use Rattle.terms.specs.Records.{Body, leaf_body, inner_body, Record, Slot, Store}
use Rattle.terms.proofs.Tests.{and_left, and_right, or_cases, is_false}
use Rattle.terms.proofs.Places.{length_longer, prefix_length}
use Rattle.meaning.specs.Tree.{VTree, vnone, vleaf, vinner}
use Rattle.meaning.specs.Store.{is_node, find, tree_at_version, retired_by}
use Rattle.meaning.specs.Sound.{Found, Stands, NodeOf, Lives, Kept, Sound}
use Rattle.meaning.proofs.Finding.{is_node_eq, is_node_refl}
use Rattle.meaning.proofs.Nodes.{node_prefix, sides_apart}
use Rattle.histories.proofs.Slots.{Has, Unique, find_has}
use Rattle.histories.proofs.Whole.{Whole, sound_whole}
use Rattle.rescue_rules.specs.Rescue.{same_node, stands_in}
use Rattle.rescue_laws.proofs.Nodes.{same_is, is_same_lem, stands_node, node_stands}
use Rattle.quarter.specs.Figures.{figure, leaves, inners, longest, path_sum, figures_of}
use Rattle.quarter.specs.Living.{lives_in, given, given_by, only_if, over_slots, living_figures}
use Rattle.quarter.proofs.Slots.{Orderless, over_same, over_none, over_either, over_one}

pub added : Orderless ◌+◌
added = record { nothing = λ a. omega arith; exchanged = λ a b. omega arith; grouped = λ a b c. omega arith }

pub largest : Orderless max
largest = record { nothing = λ a. omega arith; exchanged = λ a b. omega arith; grouped = λ a b c. omega arith }

pub same_test : (a b : Bool) → (a ≡ true → b ≡ true) → (b ≡ true → a ≡ true) → a ≡ b
same_test true b f g = sym (f refl)
same_test false b f g = sym (is_false b (λ e. true≢false (sym (g e))))

-- a record is a node of a tree, as a test
abbrev pub node_in_lem : VTree → Place → Record → Bool
node_in_lem t p r = stands_in r.version r.place t p

pub node_in : (t : VTree) (p : Place) (r : Record) → node_in_lem t p r ≡ true → NodeOf r.version r.place t p
node_in t p r = stands_node r.version r.place t p

pub in_node : (t : VTree) (p : Place) (r : Record) → NodeOf r.version r.place t p → node_in_lem t p r ≡ true
in_node t p r = node_stands r.version r.place t p

is_node_lem : (v : ℕ) (p : Place) (r : Record) → v ≡ r.version → p ≡ r.place → is_node v p r ≡ true
is_node_lem v p r e f = rw (e, f) (is_node_refl r)

deeper : (b : Side) (t : VTree) (p : Place) (q : Record) → node_in_lem t (longer b p) q ≡ true → length p < length q.place
deeper b t p q k =
    omega (arith, prefix_length (longer b p) q.place (node_prefix q.version q.place t (longer b p) (node_in t (longer b p) q k)), length_longer b p)

-- the node at the top of an inner tree, and those below it, on either side
module _ (v : ℕ) (l r : VTree) (p : Place) where
  abbrev below : Record → Bool
  below q = node_in_lem l (longer left p) q || node_in_lem r (longer right p) q

  below_deeper : (q : Record) → below q ≡ true → length p < length q.place
  below_deeper q h = elim (or_cases (node_in_lem l (longer left p) q) (node_in_lem r (longer right p) q) h) [
    | inl k ↦ deeper left l p q k
    | inr k ↦ deeper right r p q k
  ]

  top_or_below : (q : Record) → node_in_lem (vinner v l r) p q ≡ true → (is_node v p q ≡ true) ⊎ (below q ≡ true)
  top_or_below q h = elim (or_cases (same_node q.version q.place v p) (below q) h) [
    | inl k ↦ let e = same_is q.version q.place v p k in inl (is_node_lem v p q e.0 e.1)
    | inr k ↦ inr k
  ]

  top_in_lem : (q : Record) → is_node v p q ≡ true → node_in_lem (vinner v l r) p q ≡ true
  top_in_lem q h = let e = is_node_eq v p q h in in_node (vinner v l r) p q (inl (sym e.0, sym e.1))

  below_in : (q : Record) → below q ≡ true → node_in_lem (vinner v l r) p q ≡ true
  below_in q h = rw h (or-true (same_node q.version q.place v p))

  top_not_below : (q : Record) → is_node v p q ≡ true → below q ≡ true → ⊥
  top_not_below q h k = omega (arith, below_deeper q k, ap length (is_node_eq v p q h).1)

  left_in_lem : (q : Record) → node_in_lem l (longer left p) q ≡ true → below q ≡ true
  left_in_lem q h = rw h refl

  right_in_lem : (q : Record) → node_in_lem r (longer right p) q ≡ true → below q ≡ true
  right_in_lem q h = rw h (or-true (node_in_lem l (longer left p) q))

  left_not_right : (q : Record) → node_in_lem l (longer left p) q ≡ true → node_in_lem r (longer right p) q ≡ true → ⊥
  left_not_right q h k = sides_apart q.version q.place l r p (node_in l (longer left p) q h) (node_in r (longer right p) q k)

module _ (leaf_hash inner_hash : Bytes → Bytes → Bytes) (◌⊕◌ : ℕ → ℕ → ℕ) (o : Orderless ◌⊕◌) (leaf : ℕ → ℕ) (inner : ℕ) where
  infixl 20 ◌⊕◌
  module _ (st : Store) (u : Unique st.slots) where
    abbrev over : (Record → Bool) → ℕ
    over test = over_slots ◌⊕◌ (only_if test (given leaf inner)) st.slots

    over_node : (v : ℕ) (p : Place) (b : Body) → Found st v p b → over (is_node v p) ≡ given_by leaf inner (length p) b
    unfolding Found
    over_node v p b (r, f, e) =
        over_one ◌⊕◌ o (given leaf inner) v p st.slots r u f
        ∙ ap₂ (λ q c. given_by leaf inner (length q) c) (find_has v p st.slots r f).2 e

    -- each node of a tree that stands is one record
    pub over_tree : (p : Place) (t : VTree) → Stands leaf_hash inner_hash st p t → over (node_in_lem t p) ≡ figure ◌⊕◌ leaf inner (length p) t
    over_tree p vnone s = over_none ◌⊕◌ o (node_in_lem vnone p) (given leaf inner) st.slots (λ r h. refl)
    over_tree p (vleaf v g) s =
        over_same ◌⊕◌ o _ _ st.slots (λ r h.
        ap (λ b. cond b (given leaf inner r) 0)
        (same_test (node_in_lem (vleaf v g) p r) (is_node v p r)
        (λ k. let e = same_is r.version r.place v p k in is_node_lem v p r e.0 e.1)
        (λ k. let e = is_node_eq v p r k in is_same_lem r.version r.place v p (sym e.0) (sym e.1))))
        ∙ over_node v p _ s.0
    over_tree p (vinner v l r) s =
        over_either ◌⊕◌ o (is_node v p) (below v l r p) (node_in_lem (vinner v l r) p) (given leaf inner) st.slots
        (top_or_below v l r p) (top_in_lem v l r p) (below_in v l r p) (top_not_below v l r p)
        ∙ ap₂ ◌⊕◌ (over_node v p _ s.0)
        (over_either ◌⊕◌ o (node_in_lem l (longer left p)) (node_in_lem r (longer right p)) (below v l r p) (given leaf inner) st.slots
        (λ q. or_cases (node_in_lem l (longer left p) q) (node_in_lem r (longer right p) q)) (left_in_lem v l r p) (right_in_lem v l r p) (left_not_right v l r p)
        ∙ ap₂ ◌⊕◌ (over_tree (longer left p) l s.2 ∙ ap (λ n. figure ◌⊕◌ leaf inner n l) (length_longer left p))
        (over_tree (longer right p) r s.3 ∙ ap (λ n. figure ◌⊕◌ leaf inner n r) (length_longer right p)))

-- a record lives at a version, as a test
pub lives_in_lem : (v : ℕ) (r : Record) → lives_in v v r ≡ true → Lives v r
unfolding lives_in
lives_in_lem v r h = (leb-true r.version v (and_left _ _ h), not-true (retired_by v r) (and_right (leb r.version v) _ h))

pub in_lives : (v : ℕ) (r : Record) → Lives v r → lives_in v v r ≡ true
unfolding lives_in
in_lives v r (h, k) = rw (le-leb r.version v h, k) refl

module _ (leaf_hash inner_hash : Bytes → Bytes → Bytes) (st : Store) (w : Whole leaf_hash inner_hash st) (v : ℕ) (k : Kept st v) where
  -- the nodes of a kept version's tree are the records that live then
  pub node_lives : (r : Record) → Has r st.slots → node_in_lem (tree_at_version st v) [] r ≡ lives_in v v r
  node_lives r h =
      same_test (node_in_lem (tree_at_version st v) [] r) (lives_in v v r)
      (λ e. in_lives v r ((w.exact v k r h).0 (node_in (tree_at_version st v) [] r e)))
      (λ e. in_node (tree_at_version st v) [] r ((w.exact v k r h).1 (lives_in_lem v r e)))

  -- so a figure of its tree is what these records give
  living : (◌⊕◌ : ℕ → ℕ → ℕ) → Orderless ◌⊕◌ → (leaf : ℕ → ℕ) (inner : ℕ) →
      over_slots ◌⊕◌ (only_if (lives_in v v) (given leaf inner)) st.slots ≡ figure ◌⊕◌ leaf inner 0 (tree_at_version st v)
  living ◌⊕◌ o leaf inner =
      over_same ◌⊕◌ o _ _ st.slots (λ r h. ap (λ b. cond b (given leaf inner r) 0) (sym (node_lives r h)))
      ∙ over_tree leaf_hash inner_hash ◌⊕◌ o leaf inner st w.unique [] (tree_at_version st v) (w.stands v k)

  pub figures_live : living_figures v st.slots ≡ figures_of (tree_at_version st v)
  unfolding living_figures leaves inners longest path_sum
  figures_live =
      ap₂ (λ (a b : ℕ × ℕ). record { leaves = a.0; inners = a.1; longest = b.0; path_sum = b.1 })
      (ap₂ (λ (a b : ℕ). (a, b)) (living ◌+◌ added (λ n. 1) 0) (living ◌+◌ added (λ n. 0) 1))
      (ap₂ (λ (a b : ℕ). (a, b)) (living max largest (λ n. n) 0) (living ◌+◌ added (λ n. n) 0))
