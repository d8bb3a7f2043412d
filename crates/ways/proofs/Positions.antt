-- What the number of grants and the grant at a position answer is what the way by counts over the slots says, in every store whose records are in
-- form. Assumes nothing.
use Prim.Native.Nat.{ℕ, zero, suc, ◌+◌, ◌-◌, ◌<◌, ◌≤◌}
use native.Mathlib.Omega.{arith}
use mathlib.Core.Path.{◌≡◌, refl, ap, sym, ◌∙◌, subst}
use mathlib.Core.Logic.{◌↔◌, inl, inr}
use mathlib.Core.Bool.{Bool, true, false, cond}
use mathlib.Core.List.{[], ◌∷◌}
use lib.ListN.{length}
use lib.Dec.{eqb, ltb}
use borrow.Author.Tests.{eqb-true, eqb-false, ltb-true, ltb-false, lt-ltb, le-ltb}
use Rattle.terms.specs.Bits.{Side, left, right, Place, longer, begins}
use Rattle.terms.specs.Records.{Grant, grant, Child, Body, leaf_body, inner_body, Record, Store}
use Rattle.terms.proofs.Places.{length_longer}
use Rattle.meaning.specs.Store.{child_on}
use Rattle.meaning.specs.Sight.{Sight, matches, nothing, root_sight, node_sight, scan}
use Rattle.meaning.specs.Sight as sight
use Rattle.meaning.specs.Calls.{Answer, refused, accepted}
use Rattle.meaning.specs.Reading.{lost_record, beside, refusal_of}
use Rattle.meaning.specs.Counting.{weight_by, weight, number_at, at_body, at_sight, descend, position_at}
use Rattle.meaning.proofs.Descent.{kids_at, child_missing, child_sighted, goes_left, goes_right, leaf_misplaced, leaf_left_over, leaf_there}
use Rattle.ways.specs.Ways as ways
use Rattle.ways.specs.Ways.{Stop, stopped_by, leaf, missing, Met, stop, found, AtRoot, AtChild}
use Rattle.ways.specs.Positions as words
use Rattle.ways.specs.Positions.{Turn, to_left, to_right, Lands, no_child, stopped, not_there, at_leaf_lem, onward, Says, one_leaf, two_counts, Number, Position, not_below}
use Rattle.ways.proofs.Spoilt.{met_by, node_met, root_meets, root_met}
use Rattle.ways.proofs.Walking.{Formed, Above, inner_short, root_above_lem, child_above, at_child_lem}

-- what a record says of its leaves is its weight
says_weight : (r : Record) (n : ℕ) → Says r n → weight r ≡ n
unfolding weight
says_weight r n (one_leaf k x e) = ap (λ b. weight_by b r.counts) e
says_weight r n (two_counts l m e) = ap (λ b. weight_by b r.counts) e

weight_says : (r : Record) → Says r (weight r)
unfolding weight
weight_says r = go r.body refl
  where
    go : (b : Body) → r.body ≡ b → Says r (weight_by b r.counts)
    go (leaf_body k x) e = one_leaf k x e
    go (inner_body l m) e = two_counts l m e

-- by counts a position goes to one side
turns : (r : Record) (i : ℕ) → (b : Side) × (j : ℕ) × Turn r i b j
turns r i = go (ltb i r.counts.leftward) refl
  where
    go : (t : Bool) → ltb i r.counts.leftward ≡ t → (b : Side) × (j : ℕ) × Turn r i b j
    go true e = (left, i, to_left (ltb-true i _ e))
    go false e = (right, i - r.counts.leftward, to_right (ltb-false i _ e))

turned : (p : Place) (r : Record) (i : ℕ) (l m : Child) (b : Side) (j : ℕ) (below : Side → Child → ℕ → Answer Grant) → r.body ≡ inner_body l m →
    Turn r i b j → at_body p r.body r.counts i below ≡ below b (child_on b l m) j
turned p r i l m b j below e (to_left h) = goes_left p r l m i below e h
turned p r i l m b j below e (to_right h) = goes_right p r l m i below e h

module _ (st : Store) (formed : Formed st) where
  -- what is answered of what is met, n bits short of a key
  abbrev answered : ℕ → Place → Met → ℕ → Answer Grant
  answered n p (stop (stopped_by t)) i = refused (refusal_of t)
  answered n p (stop (leaf k x)) i = refused 3
  answered n p (stop missing) i = refused 3
  answered n p (found r) i = at_body p r.body r.counts i (kids_at (scan st) n p)

  sight_met : (n : ℕ) (p : Place) (x : Sight) (i : ℕ) → at_sight p x i (kids_at (scan st) n p) ≡ answered n p (met_by (stopped_by lost_record) x) i
  sight_met n p (matches r) i = refl
  sight_met n p nothing i = refl
  sight_met n p (sight.spoilt s) i = refl

  child_answers : (n : ℕ) (p : Place) (c : Child) (m : Met) (i : ℕ) → AtChild st p c m → descend n (scan st) p c i ≡ answered n p m i
  child_answers n p c m i (ways.no_child e) = child_missing (scan st) n p c i e
  child_answers n p c m i (ways.child h w) =
      child_sighted (scan st) n p c i (node_sight st c.version p) h refl
      ∙ sight_met n p (node_sight st c.version p) i
      ∙ ap (λ x. answered n p x i) (node_met st c.version (stopped_by lost_record) p m w)

  lands_is : (n : ℕ) (p : Place) (m : Met) (i : ℕ) (a : Answer Grant) → length p + n ≡ 256 → Above p m → Lands st p m i a → answered n p m i ≡ a
  lands_is n p m i a h s no_child = refl
  lands_is n p m i a h s stopped = refl
  lands_is n p m i a h s (not_there {r = r} k x e (inl f)) = leaf_misplaced p r k x i _ e f
  lands_is n p m i a h s (not_there {r = r} k x e (inr l)) = leaf_left_over p r k x i _ e l
  lands_is n p m i a h s (at_leaf_lem {r = r} k x e f z) = leaf_there p r k x i _ e f z
  lands_is zero p m i a h s (onward {r = r} l c b j e t w v) = absurd (omega (arith, inner_short p r l c e s))
  lands_is (suc n) p m i a h s (onward {r = r} l c b j {met = met} e t w v) =
      turned p r i l c b j _ e t
      ∙ child_answers n (longer b p) (child_on b l c) met j w
      ∙ lands_is n (longer b p) met j a (omega (arith, length_longer b p)) (child_above st formed (longer b p) (child_on b l c) met w) v

  -- every descent ends; at a leaf a way does
  abbrev NoLeaf : Met → Type 0
  NoLeaf (stop (stopped_by t)) = Unit {0}
  NoLeaf (stop (leaf k x)) = ⊥
  NoLeaf (stop missing) = Unit {0}
  NoLeaf (found r) = Unit {0}

  no_leaf_lem : (p : Place) (c : Child) (m : Met) → AtChild st p c m → NoLeaf m
  no_leaf_lem p c m (ways.no_child e) = tt
  no_leaf_lem p c m (ways.child h (ways.first e)) = tt
  no_leaf_lem p c m (ways.child h (ways.second e w)) = tt
  no_leaf_lem p c m (ways.child h (ways.third e w)) = tt

  Ends : Place → Met → ℕ → Type 0
  Ends p m i = (a : Answer Grant) × Lands st p m i a

  ends_by : (p : Place) (r : Record) (i : ℕ) → (b : Body) → r.body ≡ b →
      ((l c : Child) → r.body ≡ inner_body l c → (b : Side) (j : ℕ) → Turn r i b j → Ends p (found r) i) → Ends p (found r) i
  unfolding Ends
  ends_by p r i (leaf_body k x) e go = at_begins (begins p k) (eqb i 0) refl refl
    where
      some_of : (n : ℕ) → (n ≡ 0 → ⊥) → 1 ≤ n
      some_of n f = omega (arith, f)

      at_begins : (b c : Bool) → begins p k ≡ b → eqb i 0 ≡ c → (a : Answer Grant) × Lands st p (found r) i a
      at_begins false c f g = (refused 3, not_there k x e (inl f))
      at_begins true true f g = (accepted (grant k x), at_leaf_lem k x e f (eqb-true i 0 g))
      at_begins true false f g = (refused 3, not_there k x e (inr (some_of i (eqb-false i 0 g))))
  ends_by p r i (inner_body l m) e go = let (b, j, t) = turns r i in go l m e b j t

  stop_ends : (p : Place) (i : ℕ) (x : Stop) → NoLeaf (stop x) → Ends p (stop x) i
  unfolding Ends
  stop_ends p i (stopped_by t) h = (refused (refusal_of t), stopped)
  stop_ends p i (leaf k x) h = absurd h
  stop_ends p i missing h = (refused 3, no_child)

  ends : (n : ℕ) (p : Place) (m : Met) (i : ℕ) → length p + n ≡ 256 → Above p m → NoLeaf m → Ends p m i
  unfolding Ends
  ends zero p (stop x) i h s q = stop_ends p i x q
  ends (suc n) p (stop x) i h s q = stop_ends p i x q
  ends zero p (found r) i h s q = ends_by p r i r.body refl (λ l c e b j t. absurd (omega (arith, inner_short p r l c e s)))
  ends (suc n) p (found r) i h s q =
      ends_by p r i r.body refl
      (λ l c e b j t.
      let w = at_child_lem st formed (longer b p) (child_on b l c) in
      on l c e b j t w.0 w.1
      (ends n (longer b p) w.0 j (omega (arith, length_longer b p)) (child_above st formed (longer b p) (child_on b l c) w.0 w.1)
      (no_leaf_lem (longer b p) (child_on b l c) w.0 w.1)))
    where
      on : (l c : Child) → r.body ≡ inner_body l c → (b : Side) (j : ℕ) → Turn r i b j → (m : Met) → AtChild st (longer b p) (child_on b l c) m →
          Ends (longer b p) m j → Ends p (found r) i
      on l c e b j t m w (a, v) = (a, onward l c b j e t w v)

  module _ (v : ℕ) where
    -- of what is met at the root
    abbrev number_met : Met → Answer ℕ
    number_met (stop (stopped_by t)) = refused (refusal_of t)
    number_met (stop (leaf k x)) = accepted 0
    number_met (stop missing) = accepted 0
    number_met (found r) = accepted (weight r)

    number_met_lem : (m : Met) → AtRoot st v m → number_at (root_sight st v) ≡ number_met m
    number_met_lem m w = go (root_sight st v) ∙ ap number_met (root_met st v m w)
      where
        go : (x : Sight) → number_at x ≡ number_met (met_by missing x)
        go (matches r) = refl
        go nothing = refl
        go (sight.spoilt s) = refl

    number_is : (a : Answer ℕ) → Number st v a → number_at (root_sight st v) ≡ a
    number_is a (words.no_root_lem w) = number_met_lem (stop missing) w
    number_is a (words.root_lost {t = t} w) = number_met_lem (stop (stopped_by t)) w
    number_is a (words.of_root {r = r} {n = n} w s) = number_met_lem (found r) w ∙ ap accepted (says_weight r n s)

    number_said : (x : Sight) → AtRoot st v (met_by missing x) → Number st v (number_at x)
    number_said (matches r) w = words.of_root w (weight_says r)
    number_said nothing w = words.no_root_lem w
    number_said (sight.spoilt s) w = words.root_lost w

    -- The number of a kept version is read exactly so.
    pub number_exactly : (a : Answer ℕ) → (number_at ((scan st).root v) ≡ a) ↔ Number st v a
    number_exactly a = (λ e. subst (Number st v) e (number_said (root_sight st v) (root_meets st v)), number_is a)

    module _ (i : ℕ) where
      abbrev below : Record → Answer Grant
      below r = at_body [] r.body r.counts i (λ b d j. descend 255 (scan st) (b ∷ []) d j)

      abbrev position_met : Met → Answer Grant
      position_met (stop (stopped_by t)) = refused (refusal_of t)
      position_met (stop (leaf k x)) = refused 20
      position_met (stop missing) = refused 20
      position_met (found r) = cond (ltb i (weight r)) (below r) (refused 20)

      position_met_lem : (m : Met) → AtRoot st v m → position_at (scan st) (root_sight st v) i ≡ position_met m
      position_met_lem m w = go (root_sight st v) ∙ ap position_met (root_met st v m w)
        where
          go : (x : Sight) → position_at (scan st) x i ≡ position_met (met_by missing x)
          go (matches r) = refl
          go nothing = refl
          go (sight.spoilt s) = refl

      below_root : (r : Record) (a : Answer Grant) → AtRoot st v (found r) → i < weight r → Lands st [] (found r) i a →
          position_at (scan st) (root_sight st v) i ≡ a
      unfolding longer
      below_root r a w l s =
          position_met_lem (found r) w
          ∙ ap (λ b. cond b (below r) (refused 20)) (lt-ltb i (weight r) l)
          ∙ lands_is 256 [] (found r) i a refl (root_above_lem (found r)) s

      past_root : (n : ℕ) → Number st v (accepted n) → n ≤ i → position_at (scan st) (root_sight st v) i ≡ refused 20
      past_root n w l = go (root_sight st v) (number_is (accepted n) w)
        where
          go : (x : Sight) → number_at x ≡ accepted n → position_at (scan st) x i ≡ refused 20
          go (matches r) e =
              let same : weight r ≡ n = cc in
              ap (λ b. cond b (below r) (refused 20)) (le-ltb i (weight r) (omega arith))
          go nothing e = refl
          go (sight.spoilt s) e = let z : ◌≡◌ {A = ℕ} 0 1 = cc in absurd (omega arith)

      position_is : (a : Answer Grant) → Position st v i a → position_at (scan st) (root_sight st v) i ≡ a
      position_is a (words.root_lost {t = t} w) = position_met_lem (stop (stopped_by t)) w
      position_is a (not_below n w l) = past_root n w l
      position_is a (words.from_root {r = r} {n = n} w s l d) = below_root r a w (omega (arith, says_weight r n s)) d

      position_ends : (x : Sight) → AtRoot st v (met_by missing x) → (a : Answer Grant) × Position st v i a
      unfolding Ends
      position_ends nothing w = (refused 20, not_below 0 (words.no_root_lem w) (omega arith))
      position_ends (sight.spoilt s) w = (refused (beside 3 s), words.root_lost w)
      position_ends (matches r) w = go (ltb i (weight r)) refl (ends 256 [] (found r) i refl (root_above_lem (found r)) tt)
        where
          go : (b : Bool) → ltb i (weight r) ≡ b → (a : Answer Grant) × Lands st [] (found r) i a → (a : Answer Grant) × Position st v i a
          go true f d = (d.0, words.from_root w (weight_says r) (ltb-true i _ f) d.1)
          go false f d = (refused 20, not_below (weight r) (words.of_root w (weight_says r)) (ltb-false i _ f))

      -- The grant at a position of a kept version is read exactly so.
      pub position_exactly : (a : Answer Grant) → (position_at (scan st) ((scan st).root v) i ≡ a) ↔ Position st v i a
      position_exactly a = (
        λ e. let (b, w) = position_ends (root_sight st v) (root_meets st v) in subst (Position st v i) (sym (position_is b w) ∙ e) w,
        position_is a,
      )
