-- The neighbours that the searches find in a seated tree are grants of it: on the left the last of those smaller than the key, on the right
-- the first of those greater. Where the walk turns, all grants off it are on that side of the key. Assumes nothing.
use Prim.Native.Nat.{ℕ, suc}
use native.Mathlib.Omega.{arith}
use mathlib.Core.Path.{◌≡◌, refl, ap, sym, ◌∙◌, subst}
use mathlib.Core.Bool.{Bool, true, false, cond, not, true≢false}
use mathlib.Core.List.{List, [], ◌∷◌, ◌++◌}
use mathlib.Core.Option.{Option, none, some}
use Rattle.terms.specs.Bits.{Bytes, Side, left, right, Place, longer, All, filter, bit}
use Rattle.terms.specs.Records.{Grant, grant, Step, Presence, Absence, absence}
use Rattle.terms.proofs.Lists.{filter_append, filter_all, filter_none, all_map}
use Rattle.terms.proofs.Order.{before_asym}
use Rattle.meaning.specs.Tree.{Tree, leaf, inner, grants, hash}
use Rattle.meaning.specs.Tree as T
use Rattle.meaning.specs.Calls.{accepted}
use Rattle.meaning.specs.Reading.{Seen}
use Rattle.meaning.specs.Proving.{step, presence_of, Descended, descent_stopped, reached, raised_by, is_gap, descend, Sought, nobody, somebody, sought, from_trail, beyond, absence_from}
use Rattle.shown.proofs.Views.{on_side, each_side, Compared, same, other, compared, not_not, occupied, Seat, Seated, child_seated, viewed, viewed_inner, passing, gap_or_node}
use Rattle.shown.proofs.Walks.{Reached, next, grants_off_walk}
use Rattle.shown.proofs.Descent.{descent}
use Rattle.shown.proofs.Searches.{or_else, sought_below, neighbour_below, neighbour_from_trail, no_turn, turn}

-- The first, where there is one, else the second.
abbrev or_first {ℓ} : {A : Type ℓ} → Option A → Option A → Option A
or_first none y = y
or_first (some x) y = some x

-- The first and the last grant of a list.
abbrev pub first_of : List Grant → Option Grant
first_of [] = none
first_of (g ∷ gs) = some g

abbrev pub last_of : List Grant → Option Grant
last_of [] = none
last_of (g ∷ gs) = or_first (last_of gs) (some g)

-- The grant at the end on side b.
abbrev end_of : Side → List Grant → Option Grant
end_of false gs = first_of gs
end_of true gs = last_of gs

end_none : (b : Side) → end_of b [] ≡ none
end_none false = refl
end_none true = refl

end_one : (b : Side) (g : Grant) → end_of b (g ∷ []) ≡ some g
end_one false g = refl
end_one true g = refl

first_append : (xs ys : List Grant) → first_of (xs ++ ys) ≡ or_first (first_of xs) (first_of ys)
first_append [] ys = refl
first_append (x ∷ xs) ys = refl

last_append : (xs ys : List Grant) → last_of (xs ++ ys) ≡ or_first (last_of ys) (last_of xs)
last_append [] ys = go (last_of ys)
  where
    go : (o : Option Grant) → o ≡ or_first o none
    go none = refl
    go (some g) = refl
last_append (x ∷ xs) ys = ap (λ o. or_first o (some x)) (last_append xs ys) ∙ go (last_of ys)
  where
    go : (o : Option Grant) → or_first (or_first o (last_of xs)) (some x) ≡ or_first o (or_first (last_of xs) (some x))
    go none = refl
    go (some g) = refl

-- the end on side b of the grants of an inner node is that of the child there, else of the other
end_inner : (b : Side) (l r : Tree) →
    end_of b (grants (inner l r)) ≡ or_first (end_of b (grants (on_side l r b))) (end_of b (grants (on_side l r (not b))))
end_inner false l r = first_append (grants l) (grants r)
end_inner true l r = last_append (grants l) (grants r)

-- The grants on side b of a key, and the nearest of them.
abbrev grants_beyond : Side → Bytes → List Grant → List Grant
grants_beyond b k gs = filter (λ g. beyond b g.key k) gs

abbrev nearest : Side → Bytes → List Grant → Option Grant
nearest b k gs = end_of (not b) (grants_beyond b k gs)

-- of an inner node, first the child on the other side is asked
nearest_inner : (b : Side) (k : Bytes) (l r : Tree) →
    nearest b k (grants (inner l r)) ≡ or_first (nearest b k (grants (on_side l r (not b)))) (nearest b k (grants (on_side l r b)))
nearest_inner false k l r =
    ap last_of (filter_append (λ g. beyond left g.key k) (grants l) (grants r))
    ∙ last_append (grants_beyond left k (grants l)) (grants_beyond left k (grants r))
nearest_inner true k l r =
    ap first_of (filter_append (λ g. beyond right g.key k) (grants l) (grants r))
    ∙ first_append (grants_beyond right k (grants l)) (grants_beyond right k (grants r))

beyond_asym : (b : Side) (l k : Bytes) → beyond (not b) l k ≡ true → beyond b l k ≡ false
beyond_asym false l k h = before_asym k l h
beyond_asym true l k h = before_asym l k h

-- where all grants of the other child are beyond the key, none of them is near on the walk's side,
nearest_same : (b : Side) (k : Bytes) (l r : Tree) → All (λ g. beyond (not b) g.key k ≡ true) (grants (on_side l r (not b))) →
    nearest b k (grants (inner l r)) ≡ nearest b k (grants (on_side l r b))
nearest_same b k l r h =
    let gs : List Grant = grants (on_side l r (not b)) in
    let far : All (λ g. beyond b g.key k ≡ false) gs =
    all_map (λ g. beyond (not b) g.key k ≡ true) (λ g. beyond b g.key k ≡ false) gs (λ g e. beyond_asym b g.key k e) h in
    nearest_inner b k l r ∙ rw (filter_none (λ g. beyond b g.key k) gs far, end_none (not b))

-- and on their own side the end of them is
nearest_other : (b : Side) (k : Bytes) (l r : Tree) → All (λ g. beyond (not b) g.key k ≡ true) (grants (on_side l r (not b))) →
    nearest (not b) k (grants (inner l r)) ≡ or_first (nearest (not b) k (grants (on_side l r b))) (end_of b (grants (on_side l r (not b))))
nearest_other b k l r h =
    nearest_inner (not b) k l r ∙ rw (filter_all (λ g. beyond (not b) g.key k) (grants (on_side l r (not b))) h, not_not b)

-- The grant that a path proves.
abbrev pub grant_of : Presence → Grant
grant_of p = grant p.key p.value

abbrev pub grant_if : Option Presence → Option Grant
grant_if none = none
grant_if (some p) = some (grant_of p)

-- The grant that a descent comes to.
abbrev grant_at : Descended → Option Grant
grant_at (descent_stopped t) = none
grant_at (reached p) = some (grant_of p)

raised_grant : (steps : List Step) (o : Descended) → grant_at (raised_by steps o) ≡ grant_at o
raised_grant steps (descent_stopped t) = refl
raised_grant steps (reached p) = refl

-- A search finds a grant, or nobody where there is none.
pub data Names : Sought → Option Grant → Type 0 where
  no_one : Names nobody none
  one : (p : Presence) → Names (somebody p) (some (grant_of p))

names_below : (steps : List Step) (x : Sought) (o : Option Grant) → Names x o → Names (sought_below steps x) o
names_below steps x o no_one = no_one
names_below steps x o (one p) = one _

names_or : (x y : Sought) (o q : Option Grant) → Names x o → Names y q → Names (or_else x y) (or_first o q)
names_or x y o q no_one n = n
names_or x y o q (one p) n = one p

no_grants : (t : Tree) → occupied t ≡ false → grants t ≡ []
no_grants T.none e = refl
no_grants (leaf g) e = absurd (true≢false e)
no_grants (inner l r) e = absurd (true≢false e)

end_missing : (b : Side) (t : Tree) → occupied t ≡ false → end_of b (grants t) ≡ none
end_missing b t e = ap (end_of b) (no_grants t e) ∙ end_none b

-- The neighbours that a proof of absence has.
abbrev pub HasNeighbours : Option Grant → Option Grant → Absence → Type 0
HasNeighbours l r a = (grant_if a.leftward ≡ l) × (grant_if a.rightward ≡ r)

-- they are those that the searches name
given_neighbours : (l r : Option Grant) (a c : Absence) → HasNeighbours l r c → accepted (absence c) ≡ accepted (absence a) →
    HasNeighbours l r a
given_neighbours l r a c w e = let same : c ≡ a = cc in subst (HasNeighbours l r) same w

pub absence_names : (k : Bytes) (x y : Sought) (l r : Option Grant) (a : Absence) → Names x l → Names y r →
    absence_from k x y ≡ accepted (absence a) →
    HasNeighbours l r a
absence_names k x y l r a no_one no_one e = let z : ◌≡◌ {A = ℕ} 0 1 = cc in absurd (omega arith)
absence_names k x y l r a no_one (one q) e = given_neighbours _ _ a _ (refl, refl) e
absence_names k x y l r a (one p) no_one e = given_neighbours _ _ a _ (refl, refl) e
absence_names k x y l r a (one p) (one q) e = given_neighbours _ _ a _ (refl, refl) e

module _ (leaf_hash inner_hash : Bytes → Bytes → Bytes) where
  -- the descent to side b comes to the grant at the end on side b
  abbrev Ends : Side → Place → Tree → Type 0
  Ends b p t = Seated p t → grant_at (descend b (viewed leaf_hash inner_hash t)) ≡ end_of b (grants t)

  ends_inner : (b : Side) (p : Place) (l r : Tree) → Seated p (inner l r) → ((c : Side) → Ends b (longer c p) (on_side l r c)) →
      (there : Bool) → occupied (on_side l r b) ≡ there → (x y : Bytes) →
      grant_at (cond (is_gap (viewed leaf_hash inner_hash (on_side l r b)))
      (raised_by (step (not b) x ∷ []) (descend b (viewed leaf_hash inner_hash (on_side l r (not b)))))
      (raised_by (step b y ∷ []) (descend b (viewed leaf_hash inner_hash (on_side l r b)))))
      ≡ or_first (end_of b (grants (on_side l r b))) (end_of b (grants (on_side l r (not b))))
  ends_inner b p l r s f true e x y =
      let seenThere : Seen = viewed leaf_hash inner_hash (on_side l r b) in
      let d = descent leaf_hash inner_hash b (longer b p) (on_side l r b) (child_seated p l r s b) e in
      let end = f b (child_seated p l r s b) in
      rw (gap_or_node leaf_hash inner_hash (on_side l r b) ∙ ap not e, raised_grant (step b y ∷ []) (descend b seenThere), ← end, d.found)
  ends_inner b p l r s f false e x y =
      let seenOther : Seen = viewed leaf_hash inner_hash (on_side l r (not b)) in
      let gone = end_missing b (on_side l r b) e in
      rw (gap_or_node leaf_hash inner_hash (on_side l r b) ∙ ap not e, raised_grant (step (not b) x ∷ []) (descend b seenOther), gone)
      (f (not b) (child_seated p l r s (not b)))

  descent_ends : (b : Side) (p : Place) (t : Tree) → Ends b p t
  descent_ends b p T.none s = sym (end_none b)
  descent_ends b p (leaf g) s = sym (end_one b g)
  descent_ends b p (inner l r) s =
      subst (λ seen. grant_at (descend b seen) ≡ end_of b (grants (inner l r))) (sym (viewed_inner leaf_hash inner_hash l r))
      (ends_inner b p l r s (each_side (λ c. Ends b (longer c p) (on_side l r c)) (descent_ends b (longer left p) l)
      (descent_ends b (longer right p) r)) _ refl _ _
      ∙ sym (end_inner b l r))

  -- so a turn finds the grant at the end of the child
  names_turn : (b : Side) (p : Place) (t : Tree) (steps : List Step) (there : Bool) → occupied t ≡ there → Seated p t →
      Names (cond there (sought (raised_by steps (descend b (viewed leaf_hash inner_hash t)))) nobody) (end_of b (grants t))
  names_turn b p t steps false e s = rw (end_missing b t e) no_one
  names_turn b p t steps true e s =
      let d = descent leaf_hash inner_hash b p t s e in
      rw (← descent_ends b p t s, d.found) (one _)

  -- The search on side b finds the nearest grant on that side.
  abbrev Nearest : Side → Bytes → ℕ → Place → Tree → Type 0
  Nearest b k i p t = Reached k i p → Seated p t → Names (neighbour_below b k i (viewed leaf_hash inner_hash t)) (nearest b k (grants t))

  leaf_names : (b on_side_lem : Bool) (g : Grant) →
      Names (cond on_side_lem (somebody (presence_of g.key g.value [])) nobody) (end_of b (cond on_side_lem (g ∷ []) []))
  leaf_names b true g = rw (end_one b g) (one _)
  leaf_names b false g = rw (end_none b) no_one

  at_inner : (b c : Side) (p : Place) (k : Bytes) (l r : Tree) (x : Sought) → Compared c b → Seat (longer c p) k → Seated p (inner l r) →
      Names x (nearest b k (grants (on_side l r c))) →
      Names (or_else (sought_below (step c (hash leaf_hash inner_hash (on_side l r (not c))) ∷ []) x)
      (from_trail b (passing leaf_hash inner_hash c l r ∷ [])))
      (nearest b k (grants (inner l r)))
  at_inner b c p k l r x same seat s n =
      let off = grants_off_walk c p k (on_side l r (not c)) seat (child_seated p l r s (not c)) in
      rw (no_turn leaf_hash inner_hash c l r, nearest_same c k l r off) (alone (names_below _ x _ n))
    where
      alone : {y : Sought} {o : Option Grant} → Names y o → Names (or_else y nobody) o
      alone no_one = no_one
      alone (one q) = one q
  at_inner b c p k l r x other seat s n =
      let off = grants_off_walk c p k (on_side l r (not c)) seat (child_seated p l r s (not c)) in
      rw (turn leaf_hash inner_hash c l r _ refl, nearest_other c k l r off)
      (names_or _ _ _ _ (names_below _ x _ n)
      (names_turn c (longer (not c) p) (on_side l r (not c)) _ _ refl (child_seated p l r s (not c))))

  nearest_below : (b : Side) (k : Bytes) (i : ℕ) (p : Place) (l r : Tree) → ((c : Side) → Nearest b k (suc i) (longer c p) (on_side l r c)) →
      Nearest b k i p (inner l r)
  nearest_below b k i p l r below at_p s =
      let c = bit i k in
      let q = next k i p s.0 at_p in
      subst (λ seen. Names (neighbour_below b k i seen) (nearest b k (grants (inner l r)))) (sym (viewed_inner leaf_hash inner_hash l r))
      (rw (neighbour_from_trail b k (suc i) (passing leaf_hash inner_hash c l r ∷ []) (viewed leaf_hash inner_hash (on_side l r c)))
      (at_inner b c p k l r _ (compared c b) q.seat s (below c q (child_seated p l r s c))))

  pub finds_nearest : (b : Side) (k : Bytes) (i : ℕ) (p : Place) (t : Tree) → Nearest b k i p t
  finds_nearest b k i p T.none at_p s = rw (end_none (not b)) no_one
  finds_nearest b k i p (leaf g) at_p s = leaf_names (not b) (beyond b g.key k) g
  finds_nearest b k i p (inner l r) at_p s =
      nearest_below b k i p l r
      (each_side (λ c. Nearest b k (suc i) (longer c p) (on_side l r c)) (finds_nearest b k (suc i) (longer left p) l)
      (finds_nearest b k (suc i) (longer right p) r))
      at_p s
