-- A tree in which each node is as its grants demand is the tree of its grants, and the other way round: where a key goes on after a place
-- decides its side, and two keys of 32 bytes part within 256 bits. Assumes nothing.
use Prim.Native.Nat.{ℕ, zero, suc, ◌+◌, ◌<◌, ◌≤◌}
use native.Mathlib.Omega.{arith}
use mathlib.Core.Path.{◌≡◌, refl, ap, ap₂, sym, ◌∙◌, subst}
use mathlib.Core.Bool.{Bool, true, false, cond, beq, true≢false}
use mathlib.Core.List.{List, [], ◌∷◌, ◌++◌, append-nil}
use lib.ListN.{length, length-append}
use Rattle.terms.specs.Bits.{Side, left, right, Place, longer, All, filter, bits, bit, begins}
use Rattle.terms.specs.Records.{Grant}
use Rattle.terms.specs.Form.{GrantForm}
use Rattle.terms.proofs.Lists.{filter_all, filter_none, all_filter, all_map, all_map₂, all_append, all_always}
use Rattle.terms.proofs.Places.{length_bits, length_longer, prefix_longer}
use Rattle.terms.proofs.Order.{before_lex, lex_sides}
use Rattle.meaning.specs.Tree.{Tree, none, leaf, inner, by_count, grants_at, tree_of, grants, VTree, vnone, vleaf, vinner, unversioned, grants_in, top_version, kid}
use Rattle.meaning.specs.Sound.{only_leaf}
use Rattle.meaning.proofs.Sides.{goes, side, tree_by, tree_by_none, tree_by_one, Radix, Long, tree_at_by, grants_tree_by, Sorted, Above, Begun, sorted_radix, sorted_filter, begun_snoc, grants_tree_of}
use Rattle.meaning.proofs.Runs.{side_append, Ascending, Ahead, ascending_append}

-- A leaf's key begins with its place; two grants or more are below an inner node, whose place has at most 255 bits.
abbrev pub Shaped : Place → Tree → Type 0
Shaped p none = Unit {0}
Shaped p (leaf g) = (begins p g.key ≡ true) × GrantForm g
Shaped p (inner l r) =
    (length p ≤ 255) × (1 < length (grants l ++ grants r)) × Shaped (longer left p) l × Shaped (longer right p) r

pub long_form : (gs : List Grant) → All GrantForm gs → All Long gs
long_form gs h = all_map GrantForm Long gs (λ g k. omega (arith, length_bits g.key, k.0.0)) h

-- the order of keys as byte strings is the order of their bits
above_ahead : (g h : Grant) → GrantForm g → GrantForm h → Above g h → Ahead g h
above_ahead g h a b k = before_lex g.key h.key a.0.1 b.0.1 ∙ k

pub ascending_sorted : (gs : List Grant) → All GrantForm gs → Ascending gs → Sorted gs
ascending_sorted [] k s = tt
ascending_sorted (g ∷ gs) k s = (
  all_map₂ GrantForm (Ahead g) (Above g) gs (λ h a b. sym (before_lex g.key h.key k.0.0.1 a.0.1) ∙ b) k.1 s.0,
  ascending_sorted gs k.1 s.1,
)

-- what begins with a child's place begins with the node's
begun_up : (b : Side) (p : Place) (gs : List Grant) → All (Begun (longer b p)) gs → All (Begun p) gs
begun_up b p gs h = all_map (Begun (longer b p)) (Begun p) gs (λ g k. (prefix_longer b p (bits g.key) k).0) h

-- all keys begin with the place
pub shaped_begun : (p : Place) (t : Tree) → Shaped p t → All (Begun p) (grants t)
unfolding begins
shaped_begun p none s = tt
shaped_begun p (leaf g) s = (s.0, tt)
shaped_begun p (inner l r) s =
    all_append (Begun p) (grants l) (grants r) (begun_up left p (grants l) (shaped_begun (longer left p) l s.2))
    (begun_up right p (grants r) (shaped_begun (longer right p) r s.3))

pub shaped_form : (p : Place) (t : Tree) → Shaped p t → All GrantForm (grants t)
shaped_form p none s = tt
shaped_form p (leaf g) s = (s.1, tt)
shaped_form p (inner l r) s =
    all_append GrantForm (grants l) (grants r) (shaped_form (longer left p) l s.2) (shaped_form (longer right p) r s.3)

-- the grants ascend: those on the left go on with 0, those on the right with 1
ahead_sides : (p : Place) (xs ys : List Grant) → All (Begun (longer left p)) xs → All (Begun (longer right p)) ys →
    All GrantForm xs → All GrantForm ys → All (λ g. All (Ahead g) ys) xs
ahead_sides p xs ys h k a b =
    all_map₂ (Begun (longer left p)) GrantForm (λ g. All (Ahead g) ys) xs (λ g i c.
    all_map₂ (Begun (longer right p)) GrantForm (Ahead g) ys
    (λ y j d. above_ahead g y c d (lex_sides p (bits g.key) (bits y.key) i j)) k b) h a

pub shaped_ascending : (p : Place) (t : Tree) → Shaped p t → Ascending (grants t)
shaped_ascending p none s = tt
shaped_ascending p (leaf g) s = (tt, tt)
shaped_ascending p (inner l r) s =
    ascending_append (grants l) (grants r) (shaped_ascending (longer left p) l s.2) (shaped_ascending (longer right p) r s.3)
    (ahead_sides p (grants l) (grants r) (shaped_begun (longer left p) l s.2) (shaped_begun (longer right p) r s.3)
    (shaped_form (longer left p) l s.2) (shaped_form (longer right p) r s.3))

-- of grants that go on with b, all or none are on side c
side_of : (p : Place) (b : Side) (gs : List Grant) → All (Begun (longer b p)) gs → (c : Side) →
    side (length p) c gs ≡ cond (beq c b) gs []
unfolding side bit
side_of p b gs h c = pick (beq c b) refl
  where
    each : (t : Bool) → beq c b ≡ t → All (λ g. goes (length p) c g ≡ t) gs
    each t e = all_map (Begun (longer b p)) _ gs (λ g a. ap (beq c) (prefix_longer b p (bits g.key) a).1 ∙ e) h

    pick : (t : Bool) → beq c b ≡ t → filter (goes (length p) c) gs ≡ cond t gs []
    pick true e = filter_all (goes (length p) c) gs (each true e)
    pick false e = filter_none (goes (length p) c) gs (each false e)

-- the grants of two children, by their side
pub sides_of : (p : Place) (xs ys : List Grant) → All (Begun (longer left p)) xs → All (Begun (longer right p)) ys →
    (side (length p) left (xs ++ ys) ≡ xs) × (side (length p) right (xs ++ ys) ≡ ys)
sides_of p xs ys h k = (
  side_append (length p) left xs ys ∙ ap₂ ◌++◌ (side_of p left xs h left) (side_of p right ys k left) ∙ append-nil xs,
  side_append (length p) right xs ys ∙ ap₂ ◌++◌ (side_of p left xs h right) (side_of p right ys k right),
)

by_two : (gs : List Grant) (c : Side → Tree) → 1 < length gs → by_count gs c ≡ inner (c left) (c right)
by_two [] c h = absurd (omega arith)
by_two (g ∷ []) c h = absurd (omega arith)
by_two (g ∷ g' ∷ gs) c h = refl

-- such a tree is the tree of its grants
pub shaped_tree_by : (n : ℕ) (p : Place) (t : Tree) → length p + n ≡ 256 → Shaped p t → t ≡ tree_by n (length p) (grants t)
shaped_tree_by n p none e s = sym (tree_by_none n (length p))
shaped_tree_by n p (leaf g) e s = sym (tree_by_one n (length p) g)
shaped_tree_by zero p (inner l r) e s = absurd (omega arith)
shaped_tree_by (suc n) p (inner l r) e s =
    let both =
    sides_of p (grants l) (grants r) (shaped_begun (longer left p) l s.2) (shaped_begun (longer right p) r s.3) in
    ap₂ inner
    (shaped_tree_by n (longer left p) l (omega (arith, length_longer left p)) s.2
    ∙ ap₂ (tree_by n) (length_longer left p) (sym both.0))
    (shaped_tree_by n (longer right p) r (omega (arith, length_longer right p)) s.3
    ∙ ap₂ (tree_by n) (length_longer right p) (sym both.1))
    ∙ sym (by_two (grants l ++ grants r) (λ b. tree_by n (suc (length p)) (side (length p) b (grants l ++ grants r))) s.1)

-- two such trees at one place with the same grants are one
pub shaped_same : (n : ℕ) (p : Place) (t u : Tree) → length p + n ≡ 256 → Shaped p t → Shaped p u → grants t ≡ grants u → t ≡ u
shaped_same n p t u e s w h = shaped_tree_by n p t e s ∙ ap (tree_by n (length p)) h ∙ sym (shaped_tree_by n p u e w)

-- the tree of ascending grants is such a tree
two_grants : (n i : ℕ) (g g' : Grant) (gs : List Grant) → Radix (suc n) i (g ∷ g' ∷ gs) →
    1 < length (grants (tree_by n (suc i) (side i left (g ∷ g' ∷ gs))) ++ grants (tree_by n (suc i) (side i right (g ∷ g' ∷ gs))))
two_grants n i g g' gs x = rw (ap₂ ◌++◌ (grants_tree_by n (suc i) _ x.1) (grants_tree_by n (suc i) _ x.2) ∙ x.0) (omega arith)

shaped_kid : (n : ℕ) (p : Place) (b : Side) (gs : List Grant) → length p + suc n ≡ 256 → Sorted gs → All GrantForm gs → All (Begun p) gs →
    ((q : Place) (hs : List Grant) → length q + n ≡ 256 → Sorted hs → All GrantForm hs → All (Begun q) hs →
    Shaped q (tree_by n (length q) hs)) →
    Shaped (longer b p) (tree_by n (suc (length p)) (side (length p) b gs))
unfolding side
shaped_kid n p b gs e s k u ih =
    subst (λ i. Shaped (longer b p) (tree_by n i (side (length p) b gs))) (length_longer b p)
    (ih (longer b p) (side (length p) b gs) (omega (arith, length_longer b p)) (sorted_filter (goes (length p) b) gs s)
    (all_filter GrantForm (goes (length p) b) gs k) (begun_snoc p b gs (omega arith) (long_form gs k) u))

sorted_shaped : (n : ℕ) (p : Place) (gs : List Grant) → length p + n ≡ 256 → Sorted gs → All GrantForm gs → All (Begun p) gs →
    Shaped p (tree_by n (length p) gs)
unfolding begins
sorted_shaped zero p [] e s k b = tt
sorted_shaped zero p (g ∷ []) e s k b = (b.0, k.0)
sorted_shaped zero p (g ∷ g' ∷ gs) e s k b = absurd (sorted_radix zero p (g ∷ g' ∷ gs) e s (long_form (g ∷ g' ∷ gs) k) b)
sorted_shaped (suc n) p [] e s k b = tt
sorted_shaped (suc n) p (g ∷ []) e s k b = (b.0, k.0)
sorted_shaped (suc n) p (g ∷ g' ∷ gs) e s k b =
    let hs : List Grant = g ∷ g' ∷ gs in (
      omega arith,
      two_grants n (length p) g g' gs (sorted_radix (suc n) p hs e s (long_form hs k) b),
      shaped_kid n p left hs e s k b (sorted_shaped n),
      shaped_kid n p right hs e s k b (sorted_shaped n),
    )

pub ascending_shaped : (n : ℕ) (p : Place) (gs : List Grant) → length p + n ≡ 256 → Ascending gs → All GrantForm gs → All (Begun p) gs →
    Shaped p (tree_by n (length p) gs)
ascending_shaped n p gs e s k b = sorted_shaped n p gs e (ascending_sorted gs k s) k b

-- at the root: the tree of a set of grants
pub tree_of_by : (gs : List Grant) → All Long gs → tree_of gs ≡ tree_by 256 0 gs
unfolding tree_of grants_at begins
tree_of_by gs k = tree_at_by 256 [] gs refl k ∙ ap (tree_by 256 0) (filter_all _ gs (all_always _ gs (λ g. refl)))

pub tree_of_shaped : (gs : List Grant) → Ascending gs → All GrantForm gs → Shaped [] (tree_of gs)
tree_of_shaped gs s k = rw (tree_of_by gs (long_form gs k)) (ascending_shaped 256 [] gs refl s k (all_always _ gs (λ g. refl)))

pub shaped_tree_of : (t : Tree) → Shaped [] t → t ≡ tree_of (grants t)
shaped_tree_of t s = shaped_tree_by 256 [] t refl s ∙ sym (tree_of_by (grants t) (long_form (grants t) (shaped_form [] t s)))

-- the leaves of the tree of a set of grants are the grants
pub tree_of_grants : (gs : List Grant) → Ascending gs → All GrantForm gs → grants (tree_of gs) ≡ gs
tree_of_grants gs s k = grants_tree_of gs (ascending_sorted gs k s) (long_form gs k)

-- the child of a node, by its side
pub kid_shaped : (b : Side) (p : Place) (t : VTree) → Shaped p (unversioned t) → Shaped (longer b p) (unversioned (kid b t))
kid_shaped b p vnone s = tt
kid_shaped b p (vleaf v g) s = tt
kid_shaped false p (vinner v l r) s = s.2
kid_shaped true p (vinner v l r) s = s.3

-- two grants or more are below an inner node exactly if it has a child, and that not a lone leaf
pub two_grants_below : (l r : VTree) (p q : Place) → (top_version l ≡ 0 → top_version r ≡ 0 → ⊥) → only_leaf l r ≡ false →
    Shaped p (unversioned l) → Shaped q (unversioned r) → 1 < length (grants_in l ++ grants_in r)
two_grants_below vnone vnone p q c h a b = absurd (c refl refl)
two_grants_below vnone (vleaf v g) p q c h a b = absurd (true≢false h)
two_grants_below vnone (vinner v l r) p q c h a b = b.1
two_grants_below (vleaf v g) vnone p q c h a b = absurd (true≢false h)
two_grants_below (vleaf v g) (vleaf w k) p q c h a b = omega arith
two_grants_below (vleaf v g) (vinner w l r) p q c h a b = omega (arith, b.1)
two_grants_below (vinner v l r) t p q c h a b = simp (length-append (grants_in l ++ grants_in r) (grants_in t)) (omega (arith, a.1))

pub no_lone_leaf : (l r : VTree) → 1 < length (grants_in l ++ grants_in r) → only_leaf l r ≡ false
no_lone_leaf vnone vnone h = refl
no_lone_leaf vnone (vleaf v g) h = absurd (omega arith)
no_lone_leaf vnone (vinner v l r) h = refl
no_lone_leaf (vleaf v g) vnone h = absurd (omega arith)
no_lone_leaf (vleaf v g) (vleaf w k) h = refl
no_lone_leaf (vleaf v g) (vinner w l r) h = refl
no_lone_leaf (vinner v l r) t h = refl
