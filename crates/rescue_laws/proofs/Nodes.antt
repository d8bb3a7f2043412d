-- The test of a node, and the newest version that has it. Assumes nothing.
use Prim.Native.Nat.{ℕ, zero, suc, ◌+◌, ◌≤◌, ◌<◌}
use native.Mathlib.Omega.{arith}
use mathlib.Core.Path.{◌≡◌, refl, sym, ◌∙◌, subst}
use mathlib.Core.Logic.{inl, inr}
use mathlib.Core.Bool.{Bool, true, false, cond, ◌||◌, or-true, true≢false, false≢true}
use mathlib.Core.List.{List, []}
use mathlib.Core.Option.{Option, none, some, or_else}
use borrow.Author.Tests.{eqb-true, eq-eqb}
use lib.Dec.{eqb, leb}
use borrow.Author.Tests.{leb-true, leb-false}
use Rattle.terms.specs.Bits.{left, right, Place, longer, same_place}
use Rattle.terms.specs.Records.{Slot}
use Rattle.terms.proofs.Tests.{and_left, and_right, or_cases, same_place_lem, place_same}
use Rattle.meaning.specs.Tree.{VTree, vnone, vleaf, vinner}
use Rattle.meaning.specs.Sound.{NodeOf}
use Rattle.rescue_rules.specs.Rescue.{source_tree, same_node, stands_in, if_in, newest, is_there, in_run}

pub same_is : (v : ℕ) (q : Place) (w : ℕ) (p : Place) → same_node v q w p ≡ true → (w ≡ v) × (p ≡ q)
unfolding same_node
same_is v q w p h = (eqb-true w v (and_left (eqb w v) (same_place p q) h), same_place_lem p q (and_right (eqb w v) (same_place p q) h))

pub is_same_lem : (v : ℕ) (q : Place) (w : ℕ) (p : Place) → w ≡ v → p ≡ q → same_node v q w p ≡ true
unfolding same_node
is_same_lem v q w p e f = rw (e, f, eq-eqb v v refl) (place_same q)

pub stands_node : (v : ℕ) (q : Place) (t : VTree) (p : Place) → stands_in v q t p ≡ true → NodeOf v q t p
stands_node v q vnone p h = absurd (false≢true h)
stands_node v q (vleaf w g) p h = same_is v q w p h
stands_node v q (vinner w l r) p h =
    elim (or_cases (same_node v q w p) (stands_in v q l (longer left p) || stands_in v q r (longer right p)) h) [
      | inl k ↦ inl (same_is v q w p k)
      | inr k ↦ inr (elim (or_cases (stands_in v q l (longer left p)) (stands_in v q r (longer right p)) k) [
        | inl m ↦ inl (stands_node v q l (longer left p) m)
        | inr m ↦ inr (stands_node v q r (longer right p) m)
      ])
    ]

pub node_stands : (v : ℕ) (q : Place) (t : VTree) (p : Place) → NodeOf v q t p → stands_in v q t p ≡ true
node_stands v q vnone p n = absurd n
node_stands v q (vleaf w g) p n = is_same_lem v q w p n.0 n.1
node_stands v q (vinner w l r) p (inl n) = rw (is_same_lem v q w p n.0 n.1) refl
node_stands v q (vinner w l r) p (inr (inl n)) = rw (node_stands v q l (longer left p) n) (or-true (same_node v q w p))
node_stands v q (vinner w l r) p (inr (inr n)) =
    rw (node_stands v q r (longer right p) n, or-true (stands_in v q l (longer left p))) (or-true (same_node v q w p))

-- what the newest version of a run that has a node is
pub data Newest (s : List Slot) (f n w : ℕ) (q : Place) : Option ℕ → Type 0 where
  nowhere : ((v : ℕ) → f ≤ v → v ≤ f + n → NodeOf w q (source_tree s v) [] → ⊥) → Newest s f n w q none
  last : (t : ℕ) → f ≤ t → t ≤ f + n → NodeOf w q (source_tree s t) [] →
      ((v : ℕ) → t < v → v ≤ f + n → NodeOf w q (source_tree s v) [] → ⊥) → Newest s f n w q (some t)

one : (s : List Slot) (f w : ℕ) (q : Place) → Newest s f 0 w q (if_in s f w q)
unfolding if_in
one s f w q = go _ refl
  where
    go : (b : Bool) → stands_in w q (source_tree s f) [] ≡ b → Newest s f 0 w q (cond b (some f) none)
    go true e = last f (omega arith) (omega arith) (stands_node w q (source_tree s f) [] e) (λ v a b m. omega arith)
    go false e = nowhere (λ v a b m. let z : v ≡ f = omega arith in true≢false (sym (node_stands w q (source_tree s f) [] (subst (λ u. NodeOf w q (source_tree s u) []) z m)) ∙ e))

longer_run : (s : List Slot) (f n w : ℕ) (q : Place) (o i : Option ℕ) → Newest s (suc f) n w q o → Newest s f 0 w q i →
    Newest s f (suc n) w q (or_else o i)
unfolding or_else
longer_run s f n w q none none (nowhere g) (nowhere h) = nowhere (λ v a b m. go v a b m _ refl)
  where
    go : (v : ℕ) → f ≤ v → v ≤ f + suc n → NodeOf w q (source_tree s v) [] → (c : Bool) → leb v f ≡ c → ⊥
    go v a b m true e = h v a (omega (arith, leb-true v f e)) m
    go v a b m false e = g v (omega (arith, leb-false v f e)) (omega arith) m
longer_run s f n w q none (some t) (nowhere g) (last t' a b m h) =
    last t a (omega arith) m (λ v c d k. g v (omega arith) (omega arith) k)
longer_run s f n w q (some t) i (last t' a b m h) k = last t (omega arith) (omega arith) m (λ v c d j. h v c (omega arith) j)

pub newest_is : (s : List Slot) (f n w : ℕ) (q : Place) → Newest s f n w q (newest s f n w q)
newest_is s f zero w q = one s f w q
newest_is s f (suc n) w q = longer_run s f n w q _ _ (newest_is s (suc f) n w q) (one s f w q)

-- a node of a tree of the run is one of the run
pub node_in_run : (s : List Slot) (f n v w : ℕ) (q : Place) → f ≤ v → v ≤ f + n → NodeOf w q (source_tree s v) [] → in_run s f n w q ≡ true
unfolding in_run
node_in_run s f n v w q a b m = go _ (newest_is s f n w q)
  where
    go : (o : Option ℕ) → Newest s f n w q o → is_there o ≡ true
    go none (nowhere g) = absurd (g v a b m)
    go (some t) (last t' c d k g) = refl

-- a node of the run stands in one of its trees
pub run_node : (s : List Slot) (f n w : ℕ) (q : Place) → in_run s f n w q ≡ true →
    (t : ℕ) × (f ≤ t) × (t ≤ f + n) × NodeOf w q (source_tree s t) []
unfolding in_run
run_node s f n w q h = go _ (newest_is s f n w q) h
  where
    go : (o : Option ℕ) → Newest s f n w q o → is_there o ≡ true → (t : ℕ) × (f ≤ t) × (t ≤ f + n) × NodeOf w q (source_tree s t) []
    go none m k = absurd (false≢true k)
    go (some t) (last t' a b m g) k = (t, a, b, m)
