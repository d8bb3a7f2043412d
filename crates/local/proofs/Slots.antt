-- The tree that is read at a record is the one below its body, and the tree of a version the one at its root record. Left and right are
-- said once, by the side. Assumes nothing.
use Prim.Native.Nat.{ℕ, zero, suc, ◌≤◌}
use native.Mathlib.Omega.{arith}
use mathlib.Core.Path.{◌≡◌, refl, ap, sym, ◌∙◌, subst}
use mathlib.Core.Logic.{◌⊎◌, inl, inr}
use mathlib.Core.Bool.{true, false}
use mathlib.Core.List.{List, []}
use mathlib.Core.Option.{Option, none, some}
use borrow.Author.Tests.{ne_eqb}
use Rattle.terms.specs.Bits.{Side, left, right, Place, longer}
use Rattle.terms.specs.Records.{Child, Body, leaf_body, inner_body, Record, Slot, Store}
use Rattle.meaning.specs.Tree.{VTree, vnone, kid}
use Rattle.meaning.specs.Store.{find, root_of, child_on, tree_below, tree_found, tree_from, tree_at_version}
use Rattle.meaning.specs.Sound.{At, NodeOf}
use Rattle.meaning.proofs.Finding.{at_find, node_cases}
use Rattle.meaning.proofs.Roots.{root_at_lem, root_none}

-- the tree that is read at a record, n bits short of a key
abbrev pub tree_on : ℕ → Store → Record → VTree
tree_on n st r = tree_from n st.slots r.version r.place

-- a version has no tree, or a root record
abbrev pub RootCases : Store → ℕ → Type 0
RootCases st v = (tree_at_version st v ≡ vnone) ⊎ ((i : ℕ) × (r : Record) × At st i r × (root_of st v ≡ some r) × (r.place ≡ []))

-- what stands on each side below a place that is n bits short of a key
abbrev pub kids_from : ℕ → List Slot → Place → Side → ℕ → VTree
kids_from zero s p = λ b w. vnone
kids_from (suc n) s p = λ b w. tree_from n s w (longer b p)

pub no_version : (n : ℕ) (s : List Slot) (p : Place) → tree_from n s 0 p ≡ vnone
no_version zero s p = refl
no_version (suc n) s p = refl

from_found : (n v : ℕ) (s : List Slot) (p : Place) → 1 ≤ v → tree_from n s v p ≡ tree_found (find v p s) (kids_from n s p)
from_found zero v s p h = rw (ne_eqb v 0 (λ e. omega arith))
from_found (suc n) v s p h = rw (ne_eqb v 0 (λ e. omega arith))

pub kid_below : (b : Side) (v : ℕ) (l r : Child) (below : Side → ℕ → VTree) →
    kid b (tree_below v (inner_body l r) below) ≡ below b (child_on b l r).version
kid_below false v l r below = refl
kid_below true v l r below = refl

-- a node of the tree below a record is its own, or one below a child
pub body_cases : (v w : ℕ) (q p : Place) (o : Body) (below : Side → ℕ → VTree) → NodeOf v q (tree_below w o below) p →
    ((w ≡ v) × (p ≡ q))
    ⊎ ((l : Child) × (r : Child) × (o ≡ inner_body l r) × (b : Side) × NodeOf v q (below b (child_on b l r).version) (longer b p))
body_cases v w q p (leaf_body k x) below h = inl h
body_cases v w q p (inner_body l r) below h =
    elim (node_cases v w q p (below left l.version) (below right r.version) h) [
      | inl e ↦ inl e
      | inr e ↦ inr (l, r, refl, e.0, subst (λ t. NodeOf v q t (longer e.0 p)) (kid_below e.0 w l r below) e.1)
    ]

module _ (st : Store) where
  -- the tree of a version is read on from its root record
  root_found : (n v : ℕ) → n ≡ 256 → tree_at_version st v ≡ tree_found (root_of st v) (kids_from n st.slots [])
  unfolding tree_at_version longer
  root_found zero v e = absurd (omega arith)
  root_found (suc n) v e =
      let m : 255 ≡ n = omega arith in ap (λ k. tree_found (root_of st v) (λ b w. tree_from k st.slots w (longer b []))) m

  pub root_cases : (v : ℕ) → RootCases st v
  root_cases v = go _ refl
    where
      go : (o : Option Record) → root_of st v ≡ o → RootCases st v
      go none e = inl (root_none st v e)
      go (some r) e = let w = root_at_lem st v r e in inr (w.0, r, w.1, e, w.2)

  -- no two records share version and place, and no record has version 0
  module _ (unique : (i j : ℕ) (r q : Record) → At st i r → At st j q → r.version ≡ q.version → r.place ≡ q.place → i ≡ j)
      (versions : (i : ℕ) (r : Record) → At st i r → (1 ≤ r.version) × (r.version ≤ st.latest)) where
    pub record_tree : (n i : ℕ) (r : Record) → At st i r →
        tree_on n st r ≡ tree_below r.version r.body (kids_from n st.slots r.place)
    record_tree n i r a =
        from_found n r.version st.slots r.place (versions i r a).0
        ∙ ap (λ o. tree_found o (kids_from n st.slots r.place)) (at_find st unique i r a)

    pub root_tree : (n v i : ℕ) (r : Record) → n ≡ 256 → At st i r → root_of st v ≡ some r → r.place ≡ [] → tree_on n st r ≡ tree_at_version st v
    root_tree n v i r e a f g =
        record_tree n i r a
        ∙ ap (λ p. tree_below r.version r.body (kids_from n st.slots p)) g
        ∙ sym (root_found n v e ∙ ap (λ o. tree_found o (kids_from n st.slots [])) f)
