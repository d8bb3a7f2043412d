-- The walk of a comparison makes the visits and lists what changed: a leaf carried down stands where its key goes, the grants at a place are
-- those of its two sides, and one record is one tree. Assumes nothing.
use Prim.Native.Nat.{ℕ, zero, suc, ◌+◌, ◌*◌, ◌≤◌, ◌<◌}
use native.Mathlib.Omega.{arith}
use mathlib.Core.Path.{◌≡◌, refl, ap, ap₂, sym, ◌∙◌, subst}
use mathlib.Core.Logic.{◌⊎◌, inl, inr}
use mathlib.Core.Bool.{Bool, true, false, cond, ◌&&◌, ◌||◌, not, beq, true≢false}
use mathlib.Core.List.{List, [], ◌∷◌, ◌++◌}
use lib.ListN.{length, length-append}
use lib.Dec.{eqb}
use borrow.Author.Tests.{eqb-true}
use Rattle.terms.specs.Bits.{Bytes, Side, left, right, Place, longer, All, bits, bit, begins}
use Rattle.terms.specs.Records.{Grant, Store}
use Rattle.terms.specs.Form.{GrantForm}
use Rattle.terms.proofs.Lists.{all_map, all_map₂}
use Rattle.terms.proofs.Places.{begins_longer, length_longer}
use Rattle.terms.proofs.Order.{before_parted}
use Rattle.meaning.specs.Tree.{VTree, vnone, vleaf, vinner, kid, unversioned, grants_in}
use Rattle.meaning.specs.Store.{tree_from}
use Rattle.meaning.specs.Sound.{Stands}
use Rattle.meaning.proofs.Sides.{Begun}
use Rattle.meaning.proofs.Runs.{Ahead}
use Rattle.meaning.proofs.Shaped.{Shaped, shaped_begun, shaped_form, shaped_ascending}
use Rattle.histories.proofs.Standing.{Formed, inner_short, kid_stands, reads}
use Rattle.histories.proofs.Trees.{stands_shaped}
use Rattle.changed.specs.Changes.{Change, added, removed, another, changed, items_of, items}
use Rattle.changed.specs.Visits.{is_inner, same_record, no_deeper}
use Rattle.changed.specs.Walk.{visits_at, under, held, listed}
use Rattle.changed.proofs.Lists.{Under, changed_same, changed_sides}
use Rattle.changed.proofs.Visits.{visits_leaf, visits_at_comm}

-- a carried leaf is not visited for itself
visits_under : (n i : ℕ) (b : Side) (t u : VTree) → visits_at n (under i b t) u ≡ visits_at n (kid b t) u
visits_under n i b vnone u = refl
visits_under n i b (vleaf v g) u = go (beq b (bit i g.key))
  where
    go : (c : Bool) → visits_at n (cond c (vleaf v g) vnone) u ≡ visits_at n vnone u
    go true = visits_leaf n v g u
    go false = refl
visits_under n i b (vinner v l r) u = refl

pub visits_carried : (n i : ℕ) (b : Side) (t u : VTree) → visits_at n (under i b t) (under i b u) ≡ visits_at n (kid b t) (kid b u)
visits_carried n i b t u =
    visits_under n i b t (under i b u)
    ∙ visits_at_comm n (kid b t) (under i b u)
    ∙ visits_under n i b u (kid b t)
    ∙ visits_at_comm n (kid b u) (kid b t)

-- the grants at a place, by their sides
grants_under : (i : ℕ) (t : VTree) → grants_in t ≡ grants_in (under i left t) ++ grants_in (under i right t)
grants_under i vnone = refl
grants_under i (vleaf v g) = go (bit i g.key)
  where
    go : (c : Bool) → g ∷ [] ≡ grants_in (cond (beq left c) (vleaf v g) vnone) ++ grants_in (cond (beq right c) (vleaf v g) vnone)
    go true = refl
    go false = refl
grants_under i (vinner v l r) = refl

module _ (leaf_hash inner_hash : Bytes → Bytes → Bytes) (st : Store) (z : Formed st.slots) where
  -- what is compared at a place: a leaf whose key begins with it, wherever its record stands, or a tree that stands there
  abbrev pub Sits : Place → VTree → Type 0
  Sits p vnone = Unit {0}
  Sits p (vleaf v g) = (begins p g.key ≡ true) × GrantForm g
  Sits p (vinner v l r) = Stands leaf_hash inner_hash st p (vinner v l r)

  sits_shaped : (p : Place) (t : VTree) → Sits p t → Shaped p (unversioned t)
  sits_shaped p vnone s = tt
  sits_shaped p (vleaf v g) s = s
  sits_shaped p (vinner v l r) s = stands_shaped leaf_hash inner_hash st z p (vinner v l r) s

  pub stands_sits : (p : Place) (t : VTree) → Stands leaf_hash inner_hash st p t → Sits p t
  stands_sits p vnone s = tt
  stands_sits p (vleaf v g) s = stands_shaped leaf_hash inner_hash st z p (vleaf v g) s
  stands_sits p (vinner v l r) s = s

  under_sits : (b : Side) (p : Place) (t : VTree) → length p < 256 → Sits p t → Sits (longer b p) (under (length p) b t)
  under_sits b p vnone l s = tt
  under_sits b p (vleaf v g) l s = go (beq b (bit (length p) g.key)) refl
    where
      go : (c : Bool) → beq b (bit (length p) g.key) ≡ c → Sits (longer b p) (cond c (vleaf v g) vnone)
      go true e = (begins_longer b p g.key (omega (arith, s.1.0.0)) ∙ ap₂ ◌&&◌ s.0 e, s.1)
      go false e = tt
  under_sits b p (vinner v l r) k s = stands_sits (longer b p) (kid b (vinner v l r)) (kid_stands leaf_hash inner_hash b st p (vinner v l r) s)

  -- all keys on the left before all on the right, in one tree or the other
  sides_under : (p : Place) (t u : VTree) → Sits (longer left p) t → Sits (longer right p) u → Under (grants_in t) (grants_in u)
  unfolding begins
  sides_under p t u s w =
      let a = sits_shaped (longer left p) t s in
      let b = sits_shaped (longer right p) u w in
      all_map₂ (Begun (longer left p)) GrantForm (λ g. All (Ahead g) (grants_in u)) (grants_in t)
      (λ g i f. all_map₂ (Begun (longer right p)) GrantForm (Ahead g) (grants_in u)
      (λ h j k. before_parted p g.key h.key f.0.1 k.0.1 i j)
      (shaped_begun (longer right p) (unversioned u) b) (shaped_form (longer right p) (unversioned u) b))
      (shaped_begun (longer left p) (unversioned t) a) (shaped_form (longer left p) (unversioned t) a)

  -- two inner nodes of one version at a place are one tree
  one_tree : (n : ℕ) (p : Place) (v w : ℕ) (l r m s : VTree) → length p + n ≡ 256 → v ≡ w → Sits p (vinner v l r) → Sits p (vinner w m s) →
      vinner v l r ≡ vinner w m s
  one_tree n p v w l r m s e f a b =
      sym (reads leaf_hash inner_hash st z n p (vinner v l r) e a)
      ∙ ap (λ x. tree_from n st.slots x p) f
      ∙ reads leaf_hash inner_hash st z n p (vinner w m s) e b

  -- where it goes no deeper, the leaves say what changed
  ends_changed : (n : ℕ) (p : Place) (t u : VTree) → length p + n ≡ 256 → no_deeper t u ≡ true → Sits p t → Sits p u →
      changed (held t) (held u) ≡ changed (grants_in t) (grants_in u)
  unfolding no_deeper
  ends_changed n p vnone vnone e h s w = refl
  ends_changed n p vnone (vleaf y k) e h s w = refl
  ends_changed n p vnone (vinner y m q) e h s w = absurd (true≢false (sym h))
  ends_changed n p (vleaf x g) vnone e h s w = refl
  ends_changed n p (vleaf x g) (vleaf y k) e h s w = refl
  ends_changed n p (vleaf x g) (vinner y m q) e h s w = absurd (true≢false (sym h))
  ends_changed n p (vinner x l r) vnone e h s w = absurd (true≢false (sym h))
  ends_changed n p (vinner x l r) (vleaf y k) e h s w = absurd (true≢false (sym h))
  ends_changed n p (vinner x l r) (vinner y m q) e h s w =
      let same = one_tree n p x y l r m q e (eqb-true x y (or_false (eqb x y) h)) s w in
      sym (changed_same (grants_in (vinner x l r)) (shaped_ascending p (unversioned (vinner x l r)) (sits_shaped p (vinner x l r) s)))
      ∙ ap (λ t. changed (grants_in (vinner x l r)) (grants_in t)) same
    where
      or_false : (c : Bool) → c || false ≡ true → c ≡ true
      or_false true k = refl
      or_false false k = k

  short : (p : Place) (t : VTree) → length p ≡ 256 → Sits p t → is_inner t ≡ false
  short p vnone e s = refl
  short p (vleaf v g) e s = refl
  short p (vinner v l r) e s = absurd (omega (arith, inner_short st z v p _ s.0))

  at_whole_key : (p : Place) (t u : VTree) → length p ≡ 256 → Sits p t → Sits p u → no_deeper t u ≡ true
  unfolding no_deeper
  at_whole_key p t u e s w = rw (short p t e s, short p u e w) (or-true (same_record t u))
    where
      or-true : (c : Bool) → c || true ≡ true
      or-true true = refl
      or-true false = refl

  -- the walk lists what changed
  pub listed_changed : (n : ℕ) (p : Place) (t u : VTree) → length p + n ≡ 256 → Sits p t → Sits p u →
      listed n (length p) t u ≡ changed (grants_in t) (grants_in u)
  listed_changed zero p t u e s w = ends_changed zero p t u e (at_whole_key p t u (omega arith) s w) s w
  listed_changed (suc n) p t u e s w =
      go (no_deeper t u) refl
      (on left (listed_changed n (longer left p) (under (length p) left t) (under (length p) left u) (omega (arith, length_longer left p))
      (under_sits left p t (omega arith) s) (under_sits left p u (omega arith) w)))
      (on right (listed_changed n (longer right p) (under (length p) right t) (under (length p) right u) (omega (arith, length_longer right p))
      (under_sits right p t (omega arith) s) (under_sits right p u (omega arith) w)))
    where
      on : (b : Side) →
          listed n (length (longer b p)) (under (length p) b t) (under (length p) b u)
          ≡ changed (grants_in (under (length p) b t)) (grants_in (under (length p) b u)) →
          listed n (suc (length p)) (under (length p) b t) (under (length p) b u)
          ≡ changed (grants_in (under (length p) b t)) (grants_in (under (length p) b u))
      on b h = ap (λ i. listed n i (under (length p) b t) (under (length p) b u)) (sym (length_longer b p)) ∙ h

      go : (b : Bool) → no_deeper t u ≡ b →
          listed n (suc (length p)) (under (length p) left t) (under (length p) left u)
          ≡ changed (grants_in (under (length p) left t)) (grants_in (under (length p) left u)) →
          listed n (suc (length p)) (under (length p) right t) (under (length p) right u)
          ≡ changed (grants_in (under (length p) right t)) (grants_in (under (length p) right u)) →
          cond b (changed (held t) (held u))
          (listed n (suc (length p)) (under (length p) left t) (under (length p) left u)
          ++ listed n (suc (length p)) (under (length p) right t) (under (length p) right u))
          ≡ changed (grants_in t) (grants_in u)
      go true h a b = ends_changed (suc n) p t u e h s w
      go false h a b =
          ap₂ ◌++◌ a b
          ∙ sym (changed_sides (grants_in (under (length p) left t)) (grants_in (under (length p) right t)) (grants_in (under (length p) left u))
          (grants_in (under (length p) right u))
          (sides_under p (under (length p) left t) (under (length p) right u) (under_sits left p t (omega arith) s) (under_sits right p u (omega arith) w))
          (sides_under p (under (length p) left u) (under (length p) right t) (under_sits left p u (omega arith) w) (under_sits right p t (omega arith) s)))
          ∙ ap₂ changed (sym (grants_under (length p) t)) (sym (grants_under (length p) u))
