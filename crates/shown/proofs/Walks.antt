-- The walk down a seated tree answers what the tree's grants say of the key, and its trail leads from the leaf back to the root: the grants
-- off the walk have other keys, all on that side of the key. Assumes nothing.
use Prim.Native.Nat.{ℕ, suc, ◌<◌}
use native.Mathlib.Omega.{arith}
use mathlib.Core.Path.{◌≡◌, refl, ap, sym, ◌∙◌, subst}
use mathlib.Core.Bool.{Bool, true, false, cond, not}
use mathlib.Core.List.{List, [], ◌∷◌, ◌++◌, map}
use lib.ListN.{length}
use Rattle.terms.specs.Bits.{Bytes, Whole32, Side, left, right, Place, longer, All, bit, begins, same_bytes}
use Rattle.terms.specs.Records.{Grant}
use Rattle.terms.proofs.Tests.{is_false, bit_same, same_bytes_lem}
use Rattle.terms.proofs.Lists.{all_map}
use Rattle.terms.proofs.Places.{begins_longer, length_longer}
use Rattle.terms.proofs.Order.{before_irrefl, before_parted}
use Rattle.meaning.specs.Tree.{Tree, none, leaf, inner, grants, hash}
use Rattle.meaning.specs.Calls.{accepted}
use Rattle.meaning.specs.Reading.{Pass, End, walk_stopped, at_leaf, at_gap, walk, read_end, present, absent, answer_of}
use Rattle.meaning.specs.Proving.{beyond, step_up}
use Rattle.meaning.specs.Checking.{parent_hash, climb}
use Rattle.shown.proofs.Views.{on_side, each_side, Seat, Seated, child_seated, grants_seated, viewed, viewed_inner, passing, inner_from}

-- The walk for k has come to the place p, at bit i.
pub record Reached (k : Bytes) (i : ℕ) (p : Place) : Type 0 where
  pub count : length p ≡ i
  pub seat : Seat p k

pub start : (k : Bytes) → Whole32 k → Reached k 0 []
unfolding begins
start k w = record { count = refl; seat = (refl, w) }

pub next : (k : Bytes) (i : ℕ) (p : Place) → length p < 256 → Reached k i p → Reached k (suc i) (longer (bit i k) p)
next k i p h at_p =
    let n : length k ≡ 32 = at_p.seat.1.0 in
    let here : bit (length p) k ≡ bit i k = ap (λ j. bit j k) at_p.count in
    record {
      count = length_longer (bit i k) p ∙ ap suc at_p.count;
      seat = (begins_longer (bit i k) p k (omega arith) ∙ rw (at_p.seat.0, here, bit_same (bit i k)), at_p.seat.1);
    }

-- a key that parts from the walk's at a place is beyond it, on its side
pub parted_beyond : (b : Side) (p : Place) (k l : Bytes) → Seat (longer b p) k → Seat (longer (not b) p) l → beyond (not b) l k ≡ true
parted_beyond false p k l s t = before_parted p k l s.1.1 t.1.1 s.0 t.0
parted_beyond true p k l s t = before_parted p l k t.1.1 s.1.1 t.0 s.0

-- so the grants of the child where the walk doesn't go are all beyond the key, on that side
pub grants_off_walk : (b : Side) (p : Place) (k : Bytes) (t : Tree) → Seat (longer b p) k → Seated (longer (not b) p) t →
    All (λ g. beyond (not b) g.key k ≡ true) (grants t)
grants_off_walk b p k t s u =
    all_map (λ g. Seat (longer (not b) p) g.key) (λ g. beyond (not b) g.key k ≡ true) (grants t)
    (λ g e. parted_beyond b p k g.key s e) (grants_seated (longer (not b) p) t u)

-- a key beyond another is another key
beyond_itself : (b : Side) (k : Bytes) → beyond b k k ≡ true → ⊥
beyond_itself false k h = before_irrefl k h
beyond_itself true k h = before_irrefl k h

beyond_absent : (b : Side) (k : Bytes) (gs : List Grant) → All (λ g. beyond b g.key k ≡ true) gs → answer_of k gs ≡ absent
beyond_absent b k [] h = refl
beyond_absent b k (g ∷ gs) h =
    let equal-never : same_bytes k g.key ≡ true → ⊥ =
    λ e. beyond_itself b k (subst (λ l. beyond b l k ≡ true) (sym (same_bytes_lem k g.key e)) h.0) in
    rw (is_false (same_bytes k g.key) equal-never) (beyond_absent b k gs h.1)

-- of two lists one of which does not have the key, the other decides
absent_after : (k : Bytes) (gs hs : List Grant) → answer_of k hs ≡ absent → answer_of k (gs ++ hs) ≡ answer_of k gs
absent_after k [] hs h = h
absent_after k (g ∷ gs) hs h = ap (cond (same_bytes k g.key) (present g.value)) (absent_after k gs hs h)

pub present_absent : {A : Type 0} (x : Bytes) → present x ≡ absent → A
present_absent x e = let z : ◌≡◌ {A = ℕ} 0 1 = cc in absurd (omega arith)

absent_before : (k : Bytes) (gs hs : List Grant) → answer_of k gs ≡ absent → answer_of k (gs ++ hs) ≡ answer_of k hs
absent_before k [] hs h = refl
absent_before k (g ∷ gs) hs h = go (same_bytes k g.key) h (absent_before k gs hs)
  where
    go : (b : Bool) → cond b (present g.value) (answer_of k gs) ≡ absent →
        (answer_of k gs ≡ absent → answer_of k (gs ++ hs) ≡ answer_of k hs) →
        cond b (present g.value) (answer_of k (gs ++ hs)) ≡ answer_of k hs
    go true e f = present_absent g.value e
    go false e f = f e

answer_on_side : (b : Side) (k : Bytes) (l r : Tree) → answer_of k (grants (on_side l r (not b))) ≡ absent →
    answer_of k (grants (inner l r)) ≡ answer_of k (grants (on_side l r b))
answer_on_side false k l r h = absent_after k (grants l) (grants r) h
answer_on_side true k l r h = absent_before k (grants l) (grants r) h

-- what the grants of an inner node say of a key is what those of the child say where the walk goes
pub answer_on_walk : (k : Bytes) (i : ℕ) (p : Place) (l r : Tree) → Reached k i p → Seated p (inner l r) →
    answer_of k (grants (inner l r)) ≡ answer_of k (grants (on_side l r (bit i k)))
answer_on_walk k i p l r at_p s =
    answer_on_side (bit i k) k l r
    (beyond_absent (not (bit i k)) k (grants (on_side l r (not (bit i k))))
    (grants_off_walk (bit i k) p k (on_side l r (not (bit i k))) (next k i p s.0 at_p).seat (child_seated p l r s (not (bit i k)))))

module _ (leaf_hash inner_hash : Bytes → Bytes → Bytes) where
  -- The walk for k from bit i answers what the grants of t say.
  abbrev Answers : Bytes → ℕ → Place → Tree → Type 0
  Answers k i p t =
      (trail : List Pass) → Reached k i p → Seated p t →
      read_end k (walk k i trail (viewed leaf_hash inner_hash t)) ≡ accepted (answer_of k (grants t))

  answers_inner : (k : Bytes) (i : ℕ) (p : Place) (l r : Tree) → ((b : Side) → Answers k (suc i) (longer b p) (on_side l r b)) →
      Answers k i p (inner l r)
  answers_inner k i p l r f trail at_p s =
      subst (λ seen. read_end k (walk k i trail seen) ≡ accepted (answer_of k (grants (inner l r))))
      (sym (viewed_inner leaf_hash inner_hash l r))
      (f (bit i k) _ (next k i p s.0 at_p) (child_seated p l r s (bit i k)) ∙ ap accepted (sym (answer_on_walk k i p l r at_p s)))

  pub walk_answers : (k : Bytes) (i : ℕ) (p : Place) (t : Tree) → Answers k i p t
  walk_answers k i p none trail at_p s = refl
  walk_answers k i p (leaf g) trail at_p s = refl
  walk_answers k i p (inner l r) trail at_p s =
      answers_inner k i p l r
      (each_side (λ b. Answers k (suc i) (longer b p) (on_side l r b)) (walk_answers k (suc i) (longer left p) l)
      (walk_answers k (suc i) (longer right p) r))
      trail at_p s

  -- A walk ends at a leaf from which its whole trail leads where the trail that it had leads from h, or at a missing child.
  abbrev pub Climbs : Bytes → List Pass → End → Type 0
  Climbs h trail (walk_stopped t) = ⊥
  Climbs h trail (at_leaf l x whole) =
      climb leaf_hash inner_hash (leaf_hash l x) (map step_up whole) ≡ climb leaf_hash inner_hash h (map step_up trail)
  Climbs h trail (at_gap whole) = Unit {0}

  climbs_above : (h g : Bytes) (p : Pass) (trail : List Pass) (e : End) → parent_hash leaf_hash inner_hash h (step_up p) ≡ g →
      Climbs h (p ∷ trail) e → Climbs g trail e
  climbs_above h g p trail (walk_stopped t) e c = c
  climbs_above h g p trail (at_leaf l x whole) e c = c ∙ ap (λ u. climb leaf_hash inner_hash u (map step_up trail)) e
  climbs_above h g p trail (at_gap whole) e c = tt

  pub walk_climbs : (k : Bytes) (i : ℕ) (trail : List Pass) (t : Tree) →
      Climbs (hash leaf_hash inner_hash t) trail (walk k i trail (viewed leaf_hash inner_hash t))
  walk_climbs k i trail none = tt
  walk_climbs k i trail (leaf g) = refl
  walk_climbs k i trail (inner l r) =
      let p : Pass = passing leaf_hash inner_hash (bit i k) l r in
      subst (λ seen. Climbs (hash leaf_hash inner_hash (inner l r)) trail (walk k i trail seen)) (sym (viewed_inner leaf_hash inner_hash l r))
      (climbs_above (hash leaf_hash inner_hash (on_side l r (bit i k))) (hash leaf_hash inner_hash (inner l r)) p trail
      (walk k (suc i) (p ∷ trail) (viewed leaf_hash inner_hash (on_side l r (bit i k)))) (inner_from leaf_hash inner_hash (bit i k) l r)
      (each_side (λ b. Climbs (hash leaf_hash inner_hash (on_side l r b)) (p ∷ trail)
      (walk k (suc i) (p ∷ trail) (viewed leaf_hash inner_hash (on_side l r b))))
      (walk_climbs k (suc i) (p ∷ trail) l) (walk_climbs k (suc i) (p ∷ trail) r) (bit i k)))
