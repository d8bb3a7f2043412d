-- Without a store: the tree of a set of grants is seated, so the proof that is given of it is accepted against its hash, and says what the
-- grants say. At each place the grants on a side go on with its bit. Assumes nothing.
use Prim.Native.Nat.{ℕ, zero, suc, ◌+◌, ◌<◌}
use native.Mathlib.Omega.{arith}
use mathlib.Core.Path.{◌≡◌, refl, ap, sym, ◌∙◌, subst}
use mathlib.Core.Bool.{true, ◌||◌}
use mathlib.Core.List.{List, [], ◌∷◌, ◌++◌, nil≢cons}
use lib.ListN.{length}
use Rattle.terms.specs.Bits.{Bytes, Whole32, Side, left, right, Place, longer, All, filter, begins}
use Rattle.terms.specs.Records.{Grant}
use Rattle.terms.proofs.Lists.{filter_all, all_filter, all_map, all_map₂, filter_passed}
use Rattle.terms.proofs.Places.{length_bits, length_longer, begins_longer}
use Rattle.terms.proofs.Order.{before_lex}
use Rattle.meaning.specs.Tree.{grants_at, tree_of, hash}
use Rattle.meaning.specs.Reading.{answer_of}
use Rattle.meaning.specs.Proving.{prove_seen}
use Rattle.meaning.proofs.Sides.{goes, side, tree_by, tree_by_none, tree_at_by, Radix, Long, Begun, Above, Sorted, sorted_radix, grants_tree_of}
use Rattle.meaning.proofs.Runs.{Ahead, Ascending}
use Rattle.shown.proofs.Views.{occupied, granted_occupied, Seat, Seated, viewed}
use Rattle.shown.proofs.Trees.{Shows, tree_shown}

abbrev HasSeat : Place → Grant → Type 0
HasSeat p g = Seat p g.key

seats_on_side : (p : Place) (b : Side) (gs : List Grant) → length p < 256 → All (HasSeat p) gs →
    All (HasSeat (longer b p)) (side (length p) b gs)
unfolding side
seats_on_side p b gs h s =
    all_map₂ (HasSeat p) (λ g. goes (length p) b g ≡ true) (HasSeat (longer b p)) (filter (goes (length p) b) gs)
    (λ g u e. let n : length g.key ≡ 32 = u.1.0 in (begins_longer b p g.key (omega arith) ∙ rw (u.0, e), u.1))
    (all_filter (HasSeat p) (goes (length p) b) gs s) (filter_passed (goes (length p) b) gs)

-- a tree of grants has a node
grown : (n i : ℕ) (g : Grant) (gs : List Grant) → occupied (tree_by n i (g ∷ gs)) ≡ true
grown zero i g [] = refl
grown zero i g (h ∷ gs) = refl
grown (suc n) i g [] = refl
grown (suc n) i g (h ∷ gs) = refl

one_grown : (n i : ℕ) (xs ys : List Grant) {g : Grant} {gs : List Grant} → xs ++ ys ≡ g ∷ gs →
    occupied (tree_by n i xs) || occupied (tree_by n i ys) ≡ true
one_grown n i [] [] e = absurd (nil≢cons e)
one_grown n i [] (y ∷ ys) e = rw (tree_by_none n i) (grown n i y ys)
one_grown n i (x ∷ xs) ys e = rw (grown n i x xs)

-- what holds one bit further down, at the grants of a side
abbrev SeatsTree : ℕ → Place → Type 0
SeatsTree n p = (gs : List Grant) → length p + n ≡ 256 → All (HasSeat p) gs → Radix n (length p) gs → Seated p (tree_by n (length p) gs)

on_side_lem : (n : ℕ) (p : Place) (b : Side) (gs : List Grant) → length p + suc n ≡ 256 → All (HasSeat p) gs → SeatsTree n (longer b p) →
    Radix n (suc (length p)) (side (length p) b gs) → Seated (longer b p) (tree_by n (suc (length p)) (side (length p) b gs))
on_side_lem n p b gs e s f =
    subst (λ i. Radix n i (side (length p) b gs) → Seated (longer b p) (tree_by n i (side (length p) b gs))) (length_longer b p)
    (f (side (length p) b gs) (rw length_longer (omega arith)) (seats_on_side p b gs (omega arith) s))

tree_by_seated : (n : ℕ) (p : Place) → SeatsTree n p
tree_by_seated zero p [] e s r = tt
tree_by_seated zero p (g ∷ []) e s r = s.0
tree_by_seated zero p (g ∷ h ∷ gs) e s r = absurd r
tree_by_seated (suc n) p [] e s r = tt
tree_by_seated (suc n) p (g ∷ []) e s r = s.0
tree_by_seated (suc n) p (g ∷ h ∷ gs) e s r = (
  omega arith,
  one_grown n (suc (length p)) (side (length p) left (g ∷ h ∷ gs)) (side (length p) right (g ∷ h ∷ gs)) r.0,
  on_side_lem n p left (g ∷ h ∷ gs) e s (tree_by_seated n (longer left p)) r.1,
  on_side_lem n p right (g ∷ h ∷ gs) e s (tree_by_seated n (longer right p)) r.2,
)

abbrev pub WholeKey : Grant → Type 0
WholeKey g = Whole32 g.key

long : (gs : List Grant) → All WholeKey gs → All Long gs
long gs w = all_map WholeKey Long gs (λ g h. let n : length g.key ≡ 32 = h.0 in omega (arith, length_bits g.key)) w

all_begin : (gs : List Grant) → All (Begun []) gs
all_begin [] = tt
all_begin (g ∷ gs) = (refl, all_begin gs)

-- grants in the order of their keys are in the order of their bits
ascending_sorted : (gs : List Grant) → All WholeKey gs → Ascending gs → Sorted gs
ascending_sorted [] w a = tt
ascending_sorted (g ∷ gs) w a = (
  all_map₂ WholeKey (Ahead g) (Above g) gs (λ h u e. sym (before_lex g.key h.key w.0.1 u.1) ∙ e) w.1 a.0,
  ascending_sorted gs w.1 a.1,
)

module _ (gs : List Grant) (w : All WholeKey gs) (a : Ascending gs) where
  tree_of_seated : Seated [] (tree_of gs)
  unfolding tree_of grants_at begins
  tree_of_seated =
      let sorted = ascending_sorted gs w a in
      let seats : All (HasSeat []) gs = all_map WholeKey (HasSeat []) gs (λ g h. (refl, h)) w in
      subst (Seated []) (sym (tree_at_by 256 [] gs refl (long gs w) ∙ ap (tree_by 256 0) (filter_all _ gs (all_begin gs))))
      (tree_by_seated 256 [] gs refl seats (sorted_radix 256 [] gs refl sorted (long gs w) (all_begin gs)))

  -- Where there is a grant, the proof of a key that the tree of the grants gives is accepted against the tree's hash, and says what the
  -- grants say.
  pub grants_shown : (gs ≡ [] → ⊥) → (leaf_hash inner_hash : Bytes → Bytes → Bytes) (k : Bytes) → Whole32 k →
      Shows leaf_hash inner_hash (hash leaf_hash inner_hash (tree_of gs)) k (answer_of k gs)
      (prove_seen k (viewed leaf_hash inner_hash (tree_of gs)))
  grants_shown some leaf_hash inner_hash k whole =
      subst (λ hs. Shows leaf_hash inner_hash (hash leaf_hash inner_hash (tree_of gs)) k (answer_of k hs)
      (prove_seen k (viewed leaf_hash inner_hash (tree_of gs))))
      (grants_tree_of gs (ascending_sorted gs w a) (long gs w))
      (tree_shown leaf_hash inner_hash k (tree_of gs) whole tree_of_seated
      (granted_occupied (tree_of gs) (λ e. some (sym (grants_tree_of gs (ascending_sorted gs w a) (long gs w)) ∙ e))))
