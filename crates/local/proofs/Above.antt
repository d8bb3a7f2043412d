-- A node of a tree has a subtree that stands there; a subtree that stands below the top is the child of a node one bit shorter.
-- Assumes nothing.
use Prim.Native.Nat.{ℕ, ◌<◌, ◌≤◌}
use native.Mathlib.Omega.{arith}
use mathlib.Core.Path.{◌≡◌, refl, sym, ◌∙◌, subst, subst₂}
use mathlib.Core.Logic.{inl, inr}
use mathlib.Core.Bool.{Bool, true, false}
use lib.ListN.{length}
use lib.Dec.{ltb}
use borrow.Author.Tests.{ltb-true, ltb-false}
use Rattle.terms.specs.Bits.{Side, left, right, Place, longer}
use Rattle.terms.proofs.Places.{length_longer, longer_inj}
use Rattle.meaning.specs.Tree.{VTree, vnone, vleaf, vinner, top_version, kid}
use Rattle.meaning.specs.Sound.{NodeOf}
use Rattle.meaning.proofs.Finding.{Within, there, go_kid, Some, some_leaf, some_inner}

-- the subtree at a node
pub record Subtree (w : ℕ) (q : Place) (t : VTree) (p : Place) : Type 0 where
  pub tree : VTree
  pub within : Within tree q t p
  pub here : Some tree
  pub version : top_version tree ≡ w

subtree_below : (b : Side) (w x : ℕ) (q p : Place) (l r : VTree) →
    Subtree w q (kid b (vinner x l r)) (longer b p) → Subtree w q (vinner x l r) p
subtree_below b w x q p l r s = record { tree = s.tree; within = go_kid b s.within; here = s.here; version = s.version }

pub subtree : (w : ℕ) (q : Place) (t : VTree) (p : Place) → NodeOf w q t p → Subtree w q t p
subtree w q vnone p h = absurd h
subtree w q (vleaf x g) p h =
    subst (λ k. Subtree w k (vleaf x g) p) h.1 (record { tree = vleaf x g; within = there; here = some_leaf; version = h.0 })
subtree w q (vinner x l r) p (inl h) =
    subst (λ k. Subtree w k (vinner x l r) p) h.1 (record { tree = vinner x l r; within = there; here = some_inner; version = h.0 })
subtree w q (vinner x l r) p (inr (inl h)) = subtree_below left w x q p l r (subtree w q l (longer left p) h)
subtree w q (vinner x l r) p (inr (inr h)) = subtree_below right w x q p l r (subtree w q r (longer right p) h)

within_length : {u : VTree} {q : Place} {t : VTree} {p : Place} → Within u q t p → length p ≤ length q
within_length there = omega arith
within_length (go_kid b {p = p} w) = omega (arith, within_length w, length_longer b p)

-- what stands no deeper than the top is the top
pub within_top : {u : VTree} {q : Place} {t : VTree} {p : Place} → Within u q t p → length q ≤ length p → (u ≡ t) × (q ≡ p)
within_top there h = (refl, refl)
within_top (go_kid b {p = p} w) h = absurd (omega (arith, within_length w, length_longer b p))

-- the node above u, which is its child on the side b
pub record Above (u : VTree) (p : Place) (b : Side) (t : VTree) (s : Place) : Type 0 where
  pub version : ℕ
  pub lefts : VTree
  pub rights : VTree
  pub within : Within (vinner version lefts rights) p t s
  pub child : kid b (vinner version lefts rights) ≡ u

above_step : (u : VTree) (q : Place) (x : ℕ) (l r : VTree) (s : Place) (c : Side) (p : Place) (b : Side) →
    Within u q (kid c (vinner x l r)) (longer c s) → q ≡ longer b p →
    (length (longer c s) < length q → Above u p b (kid c (vinner x l r)) (longer c s)) →
    (t : Bool) → ltb (length (longer c s)) (length q) ≡ t → Above u p b (vinner x l r) s
above_step u q x l r s c p b w e f true k =
    let a = f (ltb-true _ _ k) in
    record { version = a.version; lefts = a.lefts; rights = a.rights; within = go_kid c a.within; child = a.child }
above_step u q x l r s c p b w e f false k =
    let m = within_top w (ltb-false _ _ k) in
    let n = longer_inj s p c b (sym m.1 ∙ e) in
    subst₂ (λ y d. Above u y d (vinner x l r) s) n.0 n.1
    (record { version = x; lefts = l; rights = r; within = there; child = sym m.0 })

pub above : {u : VTree} {q : Place} {t : VTree} {s : Place} → Within u q t s → length s < length q →
    (p : Place) (b : Side) → q ≡ longer b p → Above u p b t s
above there h p b e = absurd (omega arith)
above {u} {q} (go_kid c {w = x} {l = l} {r = r} {p = s} w) h p b e = above_step u q x l r s c p b w e (λ k. above w k p b e) _ refl
