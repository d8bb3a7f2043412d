-- The tree of a set of grants by its sides: of the grants at a place, those that go on with 0 stand before those that go on with 1, and
-- the tree is the join of the trees of the two; so its leaves are the grants. Assumes nothing.
use Prim.Native.Nat.{ℕ, zero, suc, ◌+◌, ◌<◌}
use native.Mathlib.Omega.{arith}
use mathlib.Core.Path.{◌≡◌, refl, ap, ap₂, sym, ◌∙◌, fun_ext}
use mathlib.Core.Bool.{Bool, true, false, cond, ◌&&◌, beq}
use mathlib.Core.List.{List, [], ◌∷◌, ◌++◌, nil≢cons, tail-eq_of_cons-eq}
use lib.ListN.{length, get_or}
use Rattle.terms.specs.Bits.{Place, longer, All, filter, bits, bit, prefix, begins}
use Rattle.terms.specs.Records.{Grant}
use Rattle.terms.proofs.Lists.{filter_twice, filter_ext, filter_all, filter_none, all_filter, all_map, all_map₂, all_always, filter_passed}
use Rattle.terms.proofs.Places.{prefix_snoc, length_longer}
use Rattle.terms.proofs.Order.{lex, lex_mono, lex_whole}
use Rattle.meaning.specs.Tree.{Tree, none, leaf, inner, by_count, grants_at, tree_at, tree_of, grants}

-- of the grants that begin with a place of i bits, filter that go on with b
abbrev pub goes : ℕ → Bool → Grant → Bool
goes i b g = beq b (bit i g.key)

unfoldable pub side : ℕ → Bool → List Grant → List Grant
side i b gs = filter (goes i b) gs

abbrev pub tree_by : ℕ → ℕ → List Grant → Tree
tree_by zero i gs = by_count gs (λ _. none)
tree_by (suc n) i gs = by_count gs (λ b. tree_by n (suc i) (side i b gs))

-- in the order of their bits
abbrev pub Radix : ℕ → ℕ → List Grant → Type 0
Radix zero i [] = Unit {0}
Radix zero i (g ∷ []) = Unit {0}
Radix zero i (g ∷ h ∷ gs) = ⊥
Radix (suc n) i gs = (side i false gs ++ side i true gs ≡ gs) × Radix n (suc i) (side i false gs) × Radix n (suc i) (side i true gs)

-- the leaves of the tree are the grants
pub grants_tree_by : (n i : ℕ) (gs : List Grant) → Radix n i gs → grants (tree_by n i gs) ≡ gs
grants_tree_by zero i [] r = refl
grants_tree_by zero i (g ∷ []) r = refl
grants_tree_by zero i (g ∷ h ∷ gs) r = absurd r
grants_tree_by (suc n) i [] r = refl
grants_tree_by (suc n) i (g ∷ []) r = refl
grants_tree_by (suc n) i (g ∷ h ∷ gs) r =
    ap₂ ◌++◌ (grants_tree_by n (suc i) (side i false (g ∷ h ∷ gs)) r.1) (grants_tree_by n (suc i) (side i true (g ∷ h ∷ gs)) r.2) ∙ r.0

-- keys of 256 bits
abbrev pub Long : Grant → Type 0
Long g = length (bits g.key) ≡ 256

pub below_snoc : (p : Place) (b : Bool) (gs : List Grant) → length p < 256 → All Long gs → grants_at (longer b p) gs ≡ side (length p) b (grants_at p gs)
unfolding grants_at side begins bit longer
below_snoc p b gs h k =
    filter_ext _ _ gs (all_map Long (λ g. prefix (longer b p) (bits g.key) ≡ prefix p (bits g.key) && beq b (get_or (bits g.key) (length p) false)) gs (λ g e. prefix_snoc p b (bits g.key) (rw e h)) k)
    ∙ sym (filter_twice _ _ gs)

-- the tree at a place goes by the grants that begin with it
pub tree_at_by : (n : ℕ) (p : Place) (gs : List Grant) → length p + n ≡ 256 → All Long gs → tree_at n p gs ≡ tree_by n (length p) (grants_at p gs)
tree_at_by zero p gs h k = refl
tree_at_by (suc n) p gs h k =
    ap (by_count (grants_at p gs)) (fun_ext λ b.
    tree_at_by n (longer b p) gs (rw length_longer (omega arith)) k
    ∙ ap₂ (tree_by n) (length_longer b p) (below_snoc p b gs (omega arith) k))

-- the node above two trees
abbrev pub join : Tree → Tree → Tree
join none none = none
join none (leaf g) = leaf g
join none (inner l r) = inner none (inner l r)
join (leaf g) none = leaf g
join (leaf g) (leaf h) = inner (leaf g) (leaf h)
join (leaf g) (inner l r) = inner (leaf g) (inner l r)
join (inner l r) t = inner (inner l r) t

pub tree_by_none : (n i : ℕ) → tree_by n i [] ≡ none
tree_by_none zero i = refl
tree_by_none (suc n) i = refl

pub tree_by_one : (n i : ℕ) (g : Grant) → tree_by n i (g ∷ []) ≡ leaf g
tree_by_one zero i g = refl
tree_by_one (suc n) i g = refl

join_two : (n i : ℕ) (xs ys : List Grant) {g h : Grant} {gs : List Grant} → xs ++ ys ≡ g ∷ h ∷ gs → Radix n i xs → Radix n i ys →
    join (tree_by n i xs) (tree_by n i ys) ≡ inner (tree_by n i xs) (tree_by n i ys)
join_two zero i [] [] e a b = absurd (nil≢cons e)
join_two zero i [] (y ∷ []) e a b = absurd (nil≢cons (tail-eq_of_cons-eq e))
join_two zero i [] (y ∷ z ∷ ys) e a b = absurd b
join_two zero i (x ∷ []) [] e a b = absurd (nil≢cons (tail-eq_of_cons-eq e))
join_two zero i (x ∷ []) (y ∷ []) e a b = refl
join_two zero i (x ∷ []) (y ∷ z ∷ ys) e a b = absurd b
join_two zero i (x ∷ w ∷ xs) ys e a b = absurd a
join_two (suc n) i [] [] e a b = absurd (nil≢cons e)
join_two (suc n) i [] (y ∷ []) e a b = absurd (nil≢cons (tail-eq_of_cons-eq e))
join_two (suc n) i [] (y ∷ z ∷ ys) e a b = refl
join_two (suc n) i (x ∷ []) [] e a b = absurd (nil≢cons (tail-eq_of_cons-eq e))
join_two (suc n) i (x ∷ []) (y ∷ []) e a b = refl
join_two (suc n) i (x ∷ []) (y ∷ z ∷ ys) e a b = refl
join_two (suc n) i (x ∷ w ∷ xs) ys e a b = refl

-- the tree is the join of the trees of its sides
pub tree_by_join : (n i : ℕ) (gs : List Grant) → Radix (suc n) i gs →
    tree_by (suc n) i gs ≡ join (tree_by n (suc i) (side i false gs)) (tree_by n (suc i) (side i true gs))
unfolding side
tree_by_join n i [] r = rw (tree_by_none n (suc i))
tree_by_join n i (g ∷ []) r =
    elim (bit i g.key) as (λ b. leaf g ≡ join (tree_by n (suc i) (cond (beq false b) (g ∷ []) [])) (tree_by n (suc i) (cond (beq true b) (g ∷ []) [])))
    [ true ↦ rw (tree_by_none n (suc i), tree_by_one n (suc i) g) | false ↦ rw (tree_by_none n (suc i), tree_by_one n (suc i) g) ]
tree_by_join n i (g ∷ h ∷ gs) r = sym (join_two n (suc i) _ _ r.0 r.1 r.2)

-- each key before all that follow
abbrev pub Above : Grant → Grant → Type 0
Above g h = lex (bits g.key) (bits h.key) ≡ true

abbrev pub Sorted : List Grant → Type 0
Sorted [] = Unit {0}
Sorted (g ∷ gs) = All (Above g) gs × Sorted gs

abbrev pub Begun : Place → Grant → Type 0
Begun p g = prefix p (bits g.key) ≡ true

pub sorted_filter : (f : Grant → Bool) (gs : List Grant) → Sorted gs → Sorted (filter f gs)
sorted_filter f [] s = tt
sorted_filter f (g ∷ gs) s =
    elim (f g) as (λ b. Sorted (cond b (g ∷ filter f gs) (filter f gs)))
    [ true ↦ (all_filter (Above g) f gs s.0, sorted_filter f gs s.1) | false ↦ sorted_filter f gs s.1 ]

-- filter that go on with 0 stand before filter that go on with 1
sides_head : (p : Place) (g : Grant) (gs : List Grant) → Sorted (g ∷ gs) → All (Begun p) (g ∷ gs) →
    side (length p) false gs ++ side (length p) true gs ≡ gs →
    (b : Bool) → bit (length p) g.key ≡ b → side (length p) false (g ∷ gs) ++ side (length p) true (g ∷ gs) ≡ g ∷ gs
unfolding side bit
sides_head p g gs s h ih false e = rw e (ap (g ∷◌) ih)
sides_head p g gs s h ih true e =
    let ones : All (λ x. bit (length p) x.key ≡ true) gs = all_map₂ (Above g) (Begun p) _ gs (λ x l w. lex_mono p (bits g.key) (bits x.key) h.0 w l e) s.0 h.1 in
    rw (
      e,
      filter_none (λ x. beq false (bit (length p) x.key)) gs (all_map _ _ gs (λ x o. ap (beq false) o) ones),
      filter_all (λ x. beq true (bit (length p) x.key)) gs (all_map _ _ gs (λ x o. ap (beq true) o) ones),
    )

sides : (p : Place) (gs : List Grant) → Sorted gs → All (Begun p) gs → side (length p) false gs ++ side (length p) true gs ≡ gs
unfolding side
sides p [] s h = refl
sides p (g ∷ gs) s h = sides_head p g gs s h (sides p gs s.1 h.1) _ refl

pub begun_snoc : (p : Place) (b : Bool) (gs : List Grant) → length p < 256 → All Long gs → All (Begun p) gs → All (Begun (longer b p)) (side (length p) b gs)
unfolding side bit longer
begun_snoc p b gs l k h =
    all_map₂ (λ g. Long g × Begun p g) (λ g. beq b (bit (length p) g.key) ≡ true) (Begun (longer b p)) (filter (goes (length p) b) gs)
    (λ g r e. rw (prefix_snoc p b (bits g.key) (rw r.0 l), r.1, e))
    (all_filter (λ g. Long g × Begun p g) (goes (length p) b) gs (all_map₂ Long (Begun p) (λ g. Long g × Begun p g) gs (λ g x y. (x, y)) k h))
    (filter_passed (goes (length p) b) gs)

-- grants in the order of their keys are in the order of their bits, all the way down
deeper : (n : ℕ) (p : Place) (gs : List Grant) → length p + suc n ≡ 256 → (b : Bool) → Sorted gs → All Long gs → All (Begun p) gs →
    ((q : Place) (hs : List Grant) → length q + n ≡ 256 → Sorted hs → All Long hs → All (Begun q) hs → Radix n (length q) hs) →
    Radix n (suc (length p)) (side (length p) b gs)
unfolding side
deeper n p gs e b s k h ih =
    rw (length_longer b p) at
    (ih (longer b p) (side (length p) b gs) (rw length_longer (omega arith)) (sorted_filter (goes (length p) b) gs s) (all_filter Long (goes (length p) b) gs k) (begun_snoc p b gs (omega arith) k h))

pub sorted_radix : (n : ℕ) (p : Place) (gs : List Grant) → length p + n ≡ 256 → Sorted gs → All Long gs → All (Begun p) gs → Radix n (length p) gs
sorted_radix zero p [] e s k h = tt
sorted_radix zero p (g ∷ []) e s k h = tt
sorted_radix zero p (g ∷ g' ∷ gs) e s k h =
    lex_whole p (bits g.key) (bits g'.key) h.0 h.1.0 (k.0 ∙ omega arith) (k.1.0 ∙ omega arith) s.0.0
sorted_radix (suc n) p gs e s k h = (sides p gs s h, deeper n p gs e false s k h (sorted_radix n), deeper n p gs e true s k h (sorted_radix n))

-- the leaves of the tree of a set of grants are the grants
pub grants_tree_of : (gs : List Grant) → Sorted gs → All Long gs → grants (tree_of gs) ≡ gs
unfolding tree_of grants_at begins
grants_tree_of gs s k =
    ap grants (tree_at_by 256 [] gs refl k)
    ∙ ap (λ l. grants (tree_by 256 0 l)) (filter_all _ gs (all_always _ gs (λ g. refl)))
    ∙ grants_tree_by 256 0 gs (sorted_radix 256 [] gs refl s k (all_always _ gs (λ g. refl)))
