-- Nodes in lists: lists put together, the node at the place of a tree, and the lists of two children. Assumes nothing.
use Prim.Native.Nat.{ℕ}
use mathlib.Core.Path.{◌≡◌, refl}
use mathlib.Core.Logic.{◌⊎◌, inl, inr}
use mathlib.Core.List.{List, [], ◌∷◌, ◌++◌}
use Rattle.terms.specs.Bits.{Place}
use Rattle.meaning.specs.Tree.{VTree, vnone, vleaf, vinner}
use Rattle.meaning.specs.Sound.{NodeOf}
use Rattle.meaning.proofs.Nodes.{node_top}
use Rattle.steps.specs.Step.{Change, updated, deleted, unchanged, Node, node_at, ends_at}
use Rattle.steps.specs.Given.{Among}

module _ (v : ℕ) (q : Place) where
  pub among_left : (xs ys : List Node) → Among v q xs → Among v q (xs ++ ys)
  among_left [] ys h = absurd h
  among_left (x ∷ xs) ys (inl e) = inl e
  among_left (x ∷ xs) ys (inr h) = inr (among_left xs ys h)

  pub among_right : (xs ys : List Node) → Among v q ys → Among v q (xs ++ ys)
  among_right [] ys h = h
  among_right (x ∷ xs) ys h = inr (among_right xs ys h)

  pub among_append : (xs ys : List Node) → Among v q (xs ++ ys) → Among v q xs ⊎ Among v q ys
  among_append [] ys h = inr h
  among_append (x ∷ xs) ys (inl e) = inl (inl e)
  among_append (x ∷ xs) ys (inr h) = elim (among_append xs ys h) [ inl k ↦ inl (inr k) | inr k ↦ inr k ]

  -- the node at the place of a tree is a node of it
  pub at_node_lem : (t : VTree) (p : Place) → Among v q (node_at p t) → NodeOf v q t p × (p ≡ q)
  at_node_lem vnone p h = absurd h
  at_node_lem (vleaf w g) p (inl e) = (e, e.1)
  at_node_lem (vleaf w g) p (inr h) = absurd h
  at_node_lem (vinner w l r) p (inl e) = (inl e, e.1)
  at_node_lem (vinner w l r) p (inr h) = absurd h

  -- only that node ends with the tree's own change
  pub ends_at_lem : (c : Change) (p : Place) (t : VTree) → Among v q (ends_at c p t) → Among v q (node_at p t)
  ends_at_lem updated p t h = h
  ends_at_lem deleted p t h = h
  ends_at_lem unchanged p t h = absurd h

  -- two children's lists, then what ends at their own places, then what ends above them
  module _ (a b x y own : List Node) where
    pub family_cases : Among v q (a ++ b ++ (x ++ y) ++ own) → Among v q (a ++ x) ⊎ (Among v q (b ++ y) ⊎ Among v q own)
    family_cases h = elim (among_append (a ++ b ++ (x ++ y)) own h) [
      | inl i ↦ elim (among_append (a ++ b) (x ++ y) i) [
        | inl j ↦ elim (among_append a b j) [ inl k ↦ inl (among_left a x k) | inr k ↦ inr (inl (among_left b y k)) ]
        | inr j ↦ elim (among_append x y j) [ inl k ↦ inl (among_right a x k) | inr k ↦ inr (inl (among_right b y k)) ]
      ]
      | inr i ↦ inr (inr i)
    ]

    pub family_left : Among v q (a ++ x) → Among v q (a ++ b ++ (x ++ y) ++ own)
    family_left h = among_left (a ++ b ++ (x ++ y)) own (elim (among_append a x h) [
      | inl k ↦ among_left (a ++ b) (x ++ y) (among_left a b k)
      | inr k ↦ among_right (a ++ b) (x ++ y) (among_left x y k)
    ])

    pub family_right : Among v q (b ++ y) → Among v q (a ++ b ++ (x ++ y) ++ own)
    family_right h = among_left (a ++ b ++ (x ++ y)) own (elim (among_append b y h) [
      | inl k ↦ among_left (a ++ b) (x ++ y) (among_right a b k)
      | inr k ↦ among_right (a ++ b) (x ++ y) (among_right x y k)
    ])

    pub family_own : Among v q own → Among v q (a ++ b ++ (x ++ y) ++ own)
    family_own h = among_right (a ++ b ++ (x ++ y)) own h

pub top_at : (v : ℕ) (t : VTree) (p : Place) → NodeOf v p t p → Among v p (node_at p t)
top_at v vnone p n = absurd n
top_at v (vleaf w g) p n = inl n
top_at v (vinner w l r) p n = inl ((node_top v (vinner w l r) p n).1, refl)

pub no_nodes : (xs : List Node) → ((v : ℕ) (q : Place) → Among v q xs → ⊥) → xs ≡ []
no_nodes [] f = refl
no_nodes (x ∷ xs) f = absurd (f x.version x.place (inl (refl, refl)))
