-- A list has at most one record for each slot. Where both trees have leaves at a place, those are one record or two; a leaf that was carried
-- down has its record further up; the records beyond the two longer places are others. Assumes nothing.
use Prim.Native.Nat.{ℕ, zero, suc, ◌+◌, ◌≤◌}
use native.Mathlib.Omega.{arith}
use mathlib.Core.Path.{◌≡◌, refl, ap, ap₂, sym, ◌∙◌, subst}
use mathlib.Core.Logic.{◌⊎◌, inl, inr}
use mathlib.Core.Bool.{Bool, true, false, cond, ◌||◌, beq, true≢false}
use mathlib.Core.List.{List, [], ◌∷◌, ◌++◌}
use mathlib.Core.Option.{some}
use lib.ListN.{length, length-append}
use lib.Dec.{eqb}
use borrow.Author.Tests.{eqb-true, eqb-false}
use Rattle.terms.specs.Bits.{Bytes, Side, left, right, Place, longer, filter, same_place, same_bytes, bit}
use Rattle.terms.specs.Records.{Grant, leaf_body, Record, Slot, used, Store}
use Rattle.terms.proofs.Tests.{place_same, bytes_same}
use Rattle.terms.proofs.Members.{In, filter_in}
use Rattle.meaning.specs.Tree.{VTree, vnone, vleaf, vinner, kid}
use Rattle.meaning.specs.Sound.{Found, Stands}
use Rattle.meaning.proofs.Finding.{used_eq}
use Rattle.histories.proofs.Standing.{found_record, kid_stands}
use Rattle.changed.specs.Changes.{Change, changed, Item, items}
use Rattle.changed.specs.Visits.{is_inner, same_record, no_deeper}
use Rattle.changed.specs.Walk.{under, held, listed}
use Rattle.changed.proofs.Visits.{beyond, exactly, counted, one, slots_apart, some_counted}
use Rattle.changed.proofs.Ends.{one_key, only_removed, ends_few, items_append}

two_counted : (x y : Slot) (xs : List Slot) → In x xs → In y xs → (x ≡ y → ⊥) → 2 ≤ length xs
two_counted x y [] h k n = absurd h
two_counted x y (z ∷ zs) (inl e) (inl f) n = absurd (n (sym e ∙ f))
two_counted x y (z ∷ zs) (inl e) (inr k) n = omega (arith, some_counted y zs k)
two_counted x y (z ∷ zs) (inr h) k n = omega (arith, some_counted x zs h)

-- a grant that stays is no change
no_change : (g h : Grant) → g.key ≡ h.key → g.value ≡ h.value → length (items (changed (g ∷ []) (h ∷ []))) ≤ 0
no_change g h e f =
    rw (one_key g h (ap (same_bytes g.key) (sym e) ∙ bytes_same g.key), ap (same_bytes g.value) (sym f) ∙ bytes_same g.value) (omega arith)

-- whether a tree is a leaf
abbrev leaf_one : VTree → ℕ
leaf_one vnone = 0
leaf_one (vleaf v g) = 1
leaf_one (vinner v l r) = 0

-- the side that a leaf is carried to
abbrev carried : ℕ → Side → VTree → Bool
carried i b vnone = false
carried i b (vleaf v g) = beq b (bit i g.key)
carried i b (vinner v l r) = false

one_side : (i : ℕ) (t : VTree) → one (carried i left t) + one (carried i right t) ≡ leaf_one t
one_side i vnone = refl
one_side i (vleaf v g) = go (bit i g.key)
  where
    go : (c : Bool) → one (beq left c) + one (beq right c) ≡ 1
    go true = refl
    go false = refl
one_side i (vinner v l r) = refl

module _ (leaf_hash inner_hash : Bytes → Bytes → Bytes) (st : Store) where
  -- a tree that stands at a place, or a leaf that was carried down to it
  abbrev Comes : Bool → Place → VTree → Type 0
  Comes true p t = is_inner t ≡ false
  Comes false p t = Stands leaf_hash inner_hash st p t

  comes_under : (c : Bool) (p : Place) (i : ℕ) (b : Side) (t : VTree) → Comes c p t → Comes (carried i b t) (longer b p) (under i b t)
  comes_under c p i b vnone h = tt
  comes_under c p i b (vleaf v g) h = go (beq b (bit i g.key))
    where
      go : (d : Bool) → Comes d (longer b p) (cond d (vleaf v g) vnone)
      go true = refl
      go false = tt
  comes_under true p i b (vinner v l r) h = absurd (true≢false h)
  comes_under false p i b (vinner v l r) h = kid_stands leaf_hash inner_hash b st p (vinner v l r) h

  module _ (p : Place) where
    abbrev here : ℕ
    here = counted (exactly p) st.slots

    abbrev LeafAt : ℕ → Grant → Type 0
    LeafAt v g = Found st v p (leaf_body g.key g.value)

    there : (v : ℕ) (g : Grant) → LeafAt v g → (r : Record) × (r.version ≡ v) × In (used r) (filter (exactly p) st.slots)
    there v g f =
        let x = found_record st v p (leaf_body g.key g.value) f in
        (x.0, x.2, filter_in (used x.0) (exactly p) st.slots x.1 (ap (same_place p) x.3 ∙ place_same p))

    one_there : (v : ℕ) (g : Grant) → LeafAt v g → 1 ≤ here
    one_there v g f = let x = there v g f in some_counted (used x.0) (filter (exactly p) st.slots) x.2

    two_there : (v w : ℕ) (g h : Grant) → LeafAt v g → LeafAt w h → (v ≡ w → ⊥) → 2 ≤ here
    two_there v w g h a b n =
        let x = there v g a in
        let y = there w h b in
        two_counted (used x.0) (used y.0) (filter (exactly p) st.slots) x.2 y.2
        (λ e. n (sym x.1 ∙ ap (λ (r : Record). r.version) (used_eq x.0 y.0 e) ∙ y.1))

    same_there : (v : ℕ) (g h : Grant) → LeafAt v g → LeafAt v h → (g.key ≡ h.key) × (g.value ≡ h.value)
    unfolding Found
    same_there v g h a b =
        let e : a.0 ≡ b.0 = some_is a.0 b.0 (sym a.1 ∙ b.1) in
        leaf_is g.key g.value h.key h.value (sym a.2 ∙ ap (λ (r : Record). r.body) e ∙ b.2)
      where
        some_is : (r q : Record) → some r ≡ some q → r ≡ q
        some_is r q e = cc

        leaf_is : (k x l y : Bytes) → leaf_body k x ≡ leaf_body l y → (k ≡ l) × (x ≡ y)
        leaf_is k x l y e = (cc, cc)

    leaf_one_lem : (c : Bool) (v : ℕ) (g : Grant) → Comes c p (vleaf v g) → 1 ≤ one c + here
    leaf_one_lem true v g h = omega arith
    leaf_one_lem false v g h = omega (arith, one_there v g h.0)

    both_stand : (v w : ℕ) (g h : Grant) → Stands leaf_hash inner_hash st p (vleaf v g) → Stands leaf_hash inner_hash st p (vleaf w h) →
        length (items (changed (g ∷ []) (h ∷ []))) ≤ here
    both_stand v w g h a b = go (eqb v w) refl
      where
        go : (c : Bool) → eqb v w ≡ c → length (items (changed (g ∷ []) (h ∷ []))) ≤ here
        go true e =
            let s = same_there w g h (subst (λ m. LeafAt m g) (eqb-true v w e) a.0) b.0 in
            omega (arith, no_change g h s.0 s.1)
        go false e = omega (arith, ends_few (vleaf v g) (vleaf w h), two_there v w g h a.0 b.0 (λ f. eqb-false v w e f))

    ends_counted : (c d : Bool) (t u : VTree) → Comes c p t → Comes d p u → length (items (changed (held t) (held u))) ≤ one c + one d + here
    ends_counted c d vnone vnone a b = omega arith
    ends_counted c d vnone (vleaf w h) a b = omega (arith, leaf_one_lem d w h b)
    ends_counted c d vnone (vinner w m s) a b = omega arith
    ends_counted c d (vleaf v g) vnone a b = rw (only_removed g) (omega (arith, leaf_one_lem c v g a))
    ends_counted true d (vleaf v g) (vleaf w h) a b = omega (arith, ends_few (vleaf v g) (vleaf w h), leaf_one_lem d w h b)
    ends_counted false true (vleaf v g) (vleaf w h) a b = omega (arith, ends_few (vleaf v g) (vleaf w h), leaf_one_lem false v g a)
    ends_counted false false (vleaf v g) (vleaf w h) a b = omega (arith, both_stand v w g h a b)
    ends_counted c d (vleaf v g) (vinner w m s) a b = rw (only_removed g) (omega (arith, leaf_one_lem c v g a))
    ends_counted c d (vinner v l r) vnone a b = omega arith
    ends_counted c d (vinner v l r) (vleaf w h) a b = omega (arith, leaf_one_lem d w h b)
    ends_counted c d (vinner v l r) (vinner w m s) a b = omega arith

    deeper_leaves : (c d : Bool) (t u : VTree) → no_deeper t u ≡ false → Comes c p t → Comes d p u → leaf_one t + leaf_one u ≤ one c + one d + here
    unfolding no_deeper
    deeper_leaves c d vnone vnone e a b = omega arith
    deeper_leaves c d vnone (vleaf w h) e a b = omega (arith, leaf_one_lem d w h b)
    deeper_leaves c d vnone (vinner w m s) e a b = omega arith
    deeper_leaves c d (vleaf v g) vnone e a b = omega (arith, leaf_one_lem c v g a)
    deeper_leaves c d (vleaf v g) (vleaf w h) e a b = absurd (or-true (same_record (vleaf v g) (vleaf w h)) e)
      where
        or-true : (x : Bool) → x || true ≡ false → ⊥
        or-true true k = true≢false k
        or-true false k = true≢false k
    deeper_leaves c d (vleaf v g) (vinner w m s) e a b = omega (arith, leaf_one_lem c v g a)
    deeper_leaves c d (vinner v l r) vnone e a b = omega arith
    deeper_leaves c d (vinner v l r) (vleaf w h) e a b = omega (arith, leaf_one_lem d w h b)
    deeper_leaves c d (vinner v l r) (vinner w m s) e a b = omega arith

  pub listed_counted : (n i : ℕ) (p : Place) (c d : Bool) (t u : VTree) → Comes c p t → Comes d p u →
      length (items (listed n i t u)) ≤ one c + one d + counted (beyond p) st.slots
  listed_counted zero i p c d t u a b = omega (arith, ends_counted p c d t u a b, slots_apart p st.slots)
  listed_counted (suc n) i p c d t u a b =
      go (no_deeper t u) refl (listed n (suc i) (under i left t) (under i left u)) (listed n (suc i) (under i right t) (under i right u))
      (listed_counted n (suc i) (longer left p) (carried i left t) (carried i left u) (under i left t) (under i left u) (comes_under c p i left t a) (comes_under d p i left u b))
      (listed_counted n (suc i) (longer right p) (carried i right t) (carried i right u) (under i right t) (under i right u) (comes_under c p i right t a) (comes_under d p i right u b))
    where
      go : (z : Bool) → no_deeper t u ≡ z → (xs ys : List Change) →
          length (items xs) ≤ one (carried i left t) + one (carried i left u) + counted (beyond (longer left p)) st.slots →
          length (items ys) ≤ one (carried i right t) + one (carried i right u) + counted (beyond (longer right p)) st.slots →
          length (items (cond z (changed (held t) (held u)) (xs ++ ys))) ≤ one c + one d + counted (beyond p) st.slots
      go true e xs ys h k = omega (arith, ends_counted p c d t u a b, slots_apart p st.slots)
      go false e xs ys h k =
          let m = ap (length {A = Item}) (items_append xs ys) ∙ length-append (items xs) (items ys) in
          omega (arith, m, deeper_leaves p c d t u e a b, slots_apart p st.slots, one_side i t, one_side i u)
