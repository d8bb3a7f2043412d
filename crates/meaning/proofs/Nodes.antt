-- The nodes of a tree by their places: each place begins with the place of the tree, so only the top has that place, and no node stands on both
-- sides. Assumes nothing.
use Prim.Native.Nat.{ℕ, ◌<◌}
use native.Mathlib.Omega.{arith}
use mathlib.Core.Path.{◌≡◌, sym, ◌∙◌}
use mathlib.Core.Logic.{◌⊎◌, inl, inr}
use mathlib.Core.Bool.{true, false≢true}
use lib.ListN.{length}
use Rattle.terms.specs.Bits.{Side, left, right, Place, longer, prefix}
use Rattle.terms.proofs.Places.{length_longer, prefix_longer, prefix_self, prefix_length}
use Rattle.meaning.specs.Tree.{VTree, vnone, vleaf, vinner, top_version}
use Rattle.meaning.specs.Sound.{NodeOf}
use Rattle.meaning.proofs.Finding.{Some, some_leaf, some_inner}

pub node_prefix : (v : ℕ) (q : Place) (t : VTree) (p : Place) → NodeOf v q t p → prefix p q ≡ true
node_prefix v q vnone p n = absurd n
node_prefix v q (vleaf w g) p n = rw (← n.1) (prefix_self p)
node_prefix v q (vinner w l r) p (inl n) = rw (← n.1) (prefix_self p)
node_prefix v q (vinner w l r) p (inr (inl n)) = (prefix_longer left p q (node_prefix v q l (longer left p) n)).0
node_prefix v q (vinner w l r) p (inr (inr n)) = (prefix_longer right p q (node_prefix v q r (longer right p) n)).0

-- below a side, places are longer
node_deeper : (b : Side) (v : ℕ) (q : Place) (t : VTree) (p : Place) → NodeOf v q t (longer b p) → length p < length q
node_deeper b v q t p n = omega (arith, prefix_length (longer b p) q (node_prefix v q t (longer b p) n), length_longer b p)

-- a node stands at the place of the tree or deeper
pub top_or_deeper : (v : ℕ) (q : Place) (t : VTree) (p : Place) → NodeOf v q t p → (p ≡ q) ⊎ (length p < length q)
top_or_deeper v q vnone p n = absurd n
top_or_deeper v q (vleaf w g) p n = inl n.1
top_or_deeper v q (vinner w l r) p (inl n) = inl n.1
top_or_deeper v q (vinner w l r) p (inr (inl n)) = inr (node_deeper left v q l p n)
top_or_deeper v q (vinner w l r) p (inr (inr n)) = inr (node_deeper right v q r p n)

-- at the place of the tree stands its top alone
pub node_top : (v : ℕ) (t : VTree) (p : Place) → NodeOf v p t p → Some t × (top_version t ≡ v)
node_top v vnone p n = absurd n
node_top v (vleaf w g) p n = (some_leaf, n.0)
node_top v (vinner w l r) p (inl n) = (some_inner, n.0)
node_top v (vinner w l r) p (inr (inl n)) = let d = node_deeper left v p l p n in absurd (omega arith)
node_top v (vinner w l r) p (inr (inr n)) = let d = node_deeper right v p r p n in absurd (omega arith)

-- no node stands on both sides
pub sides_apart : (v : ℕ) (q : Place) (t u : VTree) (p : Place) → NodeOf v q t (longer left p) → NodeOf v q u (longer right p) → ⊥
sides_apart v q t u p n m =
    let on_left = (prefix_longer left p q (node_prefix v q t (longer left p) n)).1 in
    let on_right = (prefix_longer right p q (node_prefix v q u (longer right p) m)).1 in
    false≢true (sym on_left ∙ on_right)
