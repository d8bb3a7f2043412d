-- The visits of a comparison: their number, the same for second and first, and at most one and two for each record at a place or below it.
-- A place where it goes deeper has an inner record, and the records beyond the two longer places are others. Assumes nothing.
use Prim.Native.Nat.{ℕ, zero, suc, ◌+◌, ◌*◌, ◌≤◌}
use native.Mathlib.Omega.{arith}
use mathlib.Core.Path.{◌≡◌, refl, ap, ap₂, sym, ◌∙◌, subst}
use mathlib.Core.Logic.{◌⊎◌, inl, inr}
use mathlib.Core.Bool.{Bool, true, false, cond, ◌&&◌, ◌||◌, not, true≢false}
use mathlib.Core.List.{List, [], ◌∷◌, ◌++◌}
use lib.ListN.{length, length-append, get_or}
use lib.Dec.{eqb}
use borrow.Author.Tests.{eqb-true, eq-eqb}
use Rattle.terms.specs.Bits.{Bytes, Side, left, right, Place, longer, filter, prefix, same_place}
use Rattle.terms.specs.Records.{Grant, Slot, free, used, spoiled, Store}
use Rattle.terms.proofs.Tests.{and_comm, is_false, same_place_lem, place_same}
use Rattle.terms.proofs.Places.{prefix_longer, prefix_length, prefix_self, length_longer}
use Rattle.terms.proofs.Members.{In, filter_in}
use Rattle.meaning.specs.Tree.{VTree, vnone, vleaf, vinner, kid}
use Rattle.meaning.specs.Sound.{Stands}
use Rattle.histories.proofs.Slots.{Has}
use Rattle.histories.proofs.Standing.{found_record, kid_stands}
use Rattle.changed.specs.Visits.{is_inner, same_record, no_deeper, visited, visits}
use Rattle.changed.specs.Walk.{visits_at}

-- the number of the places visited
pub visited_count : (n : ℕ) (p : Place) (t u : VTree) → length (visited n p t u) ≡ visits_at n t u
visited_count zero p t u = refl
visited_count (suc n) p t u =
    go (no_deeper t u) (visited n (longer left p) (kid left t) (kid left u)) (visited n (longer right p) (kid right t) (kid right u))
    (visited_count n (longer left p) (kid left t) (kid left u)) (visited_count n (longer right p) (kid right t) (kid right u))
  where
    go : (b : Bool) (x y : List Place) → length x ≡ visits_at n (kid left t) (kid left u) → length y ≡ visits_at n (kid right t) (kid right u) →
        suc (length (cond b [] (x ++ y))) ≡ suc (cond b 0 (visits_at n (kid left t) (kid left u) + visits_at n (kid right t) (kid right u)))
    go true x y e f = refl
    go false x y e f = ap suc (length-append x y ∙ ap₂ ◌+◌ e f)

pub visits_count : (t u : VTree) → visits t u ≡ visits_at 256 t u
visits_count t u = visited_count 256 [] t u

-- symmetric
same_number : (v w : ℕ) → eqb v w ≡ eqb w v
same_number v w = go (eqb v w) (eqb w v) refl refl
  where
    go : (a b : Bool) → eqb v w ≡ a → eqb w v ≡ b → a ≡ b
    go true true e f = refl
    go true false e f = sym (eq-eqb w v (sym (eqb-true v w e))) ∙ f
    go false true e f = sym e ∙ eq-eqb v w (sym (eqb-true w v f))
    go false false e f = refl

record_comm : (t u : VTree) → same_record t u ≡ same_record u t
record_comm vnone vnone = refl
record_comm vnone (vleaf w h) = refl
record_comm vnone (vinner w m s) = refl
record_comm (vleaf v g) vnone = refl
record_comm (vleaf v g) (vleaf w h) = same_number v w
record_comm (vleaf v g) (vinner w m s) = refl
record_comm (vinner v l r) vnone = refl
record_comm (vinner v l r) (vleaf w h) = refl
record_comm (vinner v l r) (vinner w m s) = same_number v w

deeper_comm : (t u : VTree) → no_deeper t u ≡ no_deeper u t
unfolding no_deeper
deeper_comm t u = ap₂ ◌||◌ (record_comm t u) (and_comm (not (is_inner t)) (not (is_inner u)))

pub visits_at_comm : (n : ℕ) (t u : VTree) → visits_at n t u ≡ visits_at n u t
visits_at_comm zero t u = refl
visits_at_comm (suc n) t u =
    ap suc (ap₂ (λ b x. cond b 0 x) (deeper_comm t u)
    (ap₂ ◌+◌ (visits_at_comm n (kid left t) (kid left u)) (visits_at_comm n (kid right t) (kid right u))))

pub visits_comm : (t u : VTree) → visits t u ≡ visits u t
visits_comm t u = visits_count t u ∙ visits_at_comm 256 t u ∙ sym (visits_count u t)

-- a tree with itself: one visit
deeper_same : (t : VTree) → no_deeper t t ≡ true
unfolding no_deeper
deeper_same vnone = refl
deeper_same (vleaf v g) = rw (eq-eqb v v refl)
deeper_same (vinner v l r) = rw (eq-eqb v v refl)

visits_at_same : (n : ℕ) (t : VTree) → visits_at n t t ≡ 1
visits_at_same zero t = refl
visits_at_same (suc n) t = rw (deeper_same t)

pub visits_same : (t : VTree) → visits t t ≡ 1
visits_same t = visits_count t t ∙ visits_at_same 256 t

-- a leaf is no more than no node
pub visits_leaf : (n v : ℕ) (g : Grant) (u : VTree) → visits_at n (vleaf v g) u ≡ visits_at n vnone u
unfolding no_deeper
visits_leaf zero v g u = refl
visits_leaf (suc n) v g vnone = refl
visits_leaf (suc n) v g (vleaf w h) = ap suc (go (eqb v w))
  where
    go : (b : Bool) → cond (b || true) 0 (visits_at n vnone vnone + visits_at n vnone vnone) ≡ 0
    go true = refl
    go false = refl
visits_leaf (suc n) v g (vinner w m s) = refl

-- the records at a place or below it
abbrev pub beyond : Place → Slot → Bool
beyond p free = false
beyond p (used r) = prefix p r.place
beyond p (spoiled x) = false

abbrev pub exactly : Place → Slot → Bool
exactly p free = false
exactly p (used r) = same_place p r.place
exactly p (spoiled x) = false

abbrev pub counted : (Slot → Bool) → List Slot → ℕ
counted f s = length (filter f s)

-- a place that goes on to one side neither is the place nor goes on to the other
abbrev pub one : Bool → ℕ
one b = cond b 1 0

apart : (p q : Place) → one (same_place p q) + one (prefix (longer left p) q) + one (prefix (longer right p) q) ≤ one (prefix p q)
apart p q = go (same_place p q) (prefix (longer left p) q) (prefix (longer right p) q) refl refl refl
  where
    below : (b : Side) → prefix (longer b p) q ≡ true → (prefix p q ≡ true) × (get_or q (length p) false ≡ b) × (same_place p q ≡ true → ⊥)
    below b e =
        let h = prefix_longer b p q e in
        (h.0, h.1, λ s. let k = prefix_length (longer b p) q e in let l = length_longer b p in let m = ap length (same_place_lem p q s) in omega arith)

    go : (a b c : Bool) → same_place p q ≡ a → prefix (longer left p) q ≡ b → prefix (longer right p) q ≡ c → one a + one b + one c ≤ one (prefix p q)
    go true true c e f g = absurd ((below left f).2 e)
    go true false true e f g = absurd ((below right g).2 e)
    go true false false e f g = rw (ap (prefix p) (sym (same_place_lem p q e)) ∙ prefix_self p) (omega arith)
    go false true true e f g = absurd (true≢false (sym (below right g).1 ∙ (below left f).1))
    go false true false e f g = rw (below left f).0 (omega arith)
    go false false true e f g = rw (below right g).0 (omega arith)
    go false false false e f g = omega arith

count_cons : (f : Slot → Bool) (x : Slot) (s : List Slot) → counted f (x ∷ s) ≡ one (f x) + counted f s
count_cons f x s = elim (f x) as (λ b. length (cond b (x ∷ filter f s) (filter f s)) ≡ one b + counted f s) [ true ↦ omega arith | false ↦ omega arith ]

pub slots_apart : (p : Place) (s : List Slot) →
    counted (exactly p) s + counted (beyond (longer left p)) s + counted (beyond (longer right p)) s ≤ counted (beyond p) s
slots_apart p [] = omega arith
slots_apart p (free ∷ s) = slots_apart p s
slots_apart p (used r ∷ s) =
    let a = count_cons (exactly p) (used r) s in
    let b = count_cons (beyond (longer left p)) (used r) s in
    let c = count_cons (beyond (longer right p)) (used r) s in
    let d = count_cons (beyond p) (used r) s in
    let e = apart p r.place in
    let f = slots_apart p s in
    omega arith
slots_apart p (spoiled x ∷ s) = slots_apart p s

pub some_counted : (x : Slot) (xs : List Slot) → In x xs → 1 ≤ length xs
some_counted x [] h = absurd h
some_counted x (y ∷ ys) h = omega arith

pub at_most_all : (f : Slot → Bool) (s : List Slot) → counted f s ≤ length s
at_most_all f [] = omega arith
at_most_all f (x ∷ s) = let a = count_cons f x s in let b = at_most_all f s in go (f x) a b
  where
    go : (t : Bool) → counted f (x ∷ s) ≡ one t + counted f s → counted f s ≤ length s → counted f (x ∷ s) ≤ suc (length s)
    go true a b = omega arith
    go false a b = omega arith

widen : (x y n : ℕ) → x ≤ 1 + 2 * y → y ≤ n → x ≤ 1 + 2 * n
widen x y n h k = omega arith

module _ (leaf_hash inner_hash : Bytes → Bytes → Bytes) (st : Store) where
  -- an inner node has a record at its place
  inner_counted : (p : Place) (t : VTree) → is_inner t ≡ true → Stands leaf_hash inner_hash st p t → 1 ≤ counted (exactly p) st.slots
  inner_counted p vnone e s = absurd (true≢false (sym e))
  inner_counted p (vleaf v g) e s = absurd (true≢false (sym e))
  inner_counted p (vinner v l r) e s =
      let x = found_record st v p _ s.0 in
      some_counted (used x.0) (filter (exactly p) st.slots)
      (filter_in (used x.0) (exactly p) st.slots x.1 (ap (same_place p) x.3 ∙ place_same p))

  deeper_counted : (p : Place) (t u : VTree) → no_deeper t u ≡ false → Stands leaf_hash inner_hash st p t → Stands leaf_hash inner_hash st p u →
      1 ≤ counted (exactly p) st.slots
  unfolding no_deeper
  deeper_counted p t u e s w = go (is_inner t) (is_inner u) refl refl e
    where
      go : (a b : Bool) → is_inner t ≡ a → is_inner u ≡ b → same_record t u || (not a && not b) ≡ false → 1 ≤ counted (exactly p) st.slots
      go true b f g h = inner_counted p t f s
      go false true f g h = inner_counted p u g w
      go false false f g h = absurd (or-true (same_record t u) h)
        where
          or-true : (c : Bool) → c || true ≡ false → ⊥
          or-true true k = true≢false k
          or-true false k = true≢false k

  pub visits_at_most : (n : ℕ) (p : Place) (t u : VTree) → Stands leaf_hash inner_hash st p t → Stands leaf_hash inner_hash st p u →
      visits_at n t u ≤ 1 + 2 * counted (beyond p) st.slots
  visits_at_most zero p t u s w = omega arith
  visits_at_most (suc n) p t u s w =
      go (no_deeper t u) refl
      (visits_at_most n (longer left p) (kid left t) (kid left u) (kid_stands leaf_hash inner_hash left st p t s) (kid_stands leaf_hash inner_hash left st p u w))
      (visits_at_most n (longer right p) (kid right t) (kid right u) (kid_stands leaf_hash inner_hash right st p t s) (kid_stands leaf_hash inner_hash right st p u w))
    where
      go : (b : Bool) → no_deeper t u ≡ b → {x y : ℕ} → x ≤ 1 + 2 * counted (beyond (longer left p)) st.slots →
          y ≤ 1 + 2 * counted (beyond (longer right p)) st.slots → suc (cond b 0 (x + y)) ≤ 1 + 2 * counted (beyond p) st.slots
      go true e h k = omega arith
      go false e h k = let a = deeper_counted p t u e s w in let b = slots_apart p st.slots in omega arith

  pub visits_by_slots : (t u : VTree) → Stands leaf_hash inner_hash st [] t → Stands leaf_hash inner_hash st [] u →
      visits t u ≤ 1 + 2 * length st.slots
  visits_by_slots t u s w =
      subst (λ x. x ≤ 1 + 2 * length st.slots) (sym (visits_count t u))
      (widen _ _ _ (visits_at_most 256 [] t u s w) (at_most_all (beyond []) st.slots))
