-- A descent finds somebody, or is stopped exactly where its way is; and the search from a trail takes the deepest fork. Assumes nothing.
use Prim.Native.Nat.{ℕ, zero, suc, ◌+◌, ◌-◌, ◌<◌}
use native.Mathlib.Omega.{arith}
use mathlib.Core.Path.{◌≡◌, refl, ap, sym, ◌∙◌, subst}
use mathlib.Core.Bool.{Bool, true, false, cond, not, ◌&&◌, beq, true≢false, false≢true}
use mathlib.Core.List.{List, [], ◌∷◌, ◌++◌, map}
use lib.ListN.{length}
use lib.Dec.{eqb}
use borrow.Author.Tests.{ne_eqb, eqb-true, eqb-false}
use Rattle.terms.specs.Bits.{Bytes, Side, Place, longer, All, bit, begins}
use Rattle.terms.specs.Records.{Child, Body, leaf_body, inner_body, Record, Store, Step, Presence}
use Rattle.terms.proofs.Places.{length_longer}
use Rattle.terms.proofs.Tests.{and_left, and_right, same_bit, bit_same}
use Rattle.meaning.specs.Store.{child_on}
use Rattle.meaning.specs.Reading.{leaf_seen, seen_body, seen_at}
use Rattle.meaning.specs.Sight.{scan}
use Rattle.meaning.specs.Reading.{Trouble, stray_leaf}
use Rattle.meaning.specs.Reading as reading
use Rattle.meaning.specs.Proving.{step, is_gap, Descended, descent_stopped, reached, raised_by, descend, Sought, search_stopped, sought, turns_away, from_trail}
use Rattle.ways.specs.Ways.{to, Inner, Stop, stopped_by, leaf, missing, Met, stop, found, AtChild, Way, ended, misplaced, at_leaf_lem, onward, TurnedAway, DescentLost}
use Rattle.ways.proofs.Walking.{Formed, Present, inner, inner_short, child_form, child_above, not_missing, missing_met, at_child_lem, seen_met, child_seen, way_ends, pass_of}

module _ (st : Store) (formed : Formed st) where
  -- a gap is seen exactly where there is no child
  gap_by : (n : ℕ) (p : Place) (m : Met) → (m ≡ stop missing → ⊥) → is_gap (seen_met st formed n p m) ≡ false
  gap_by n p (stop (stopped_by t)) h = refl
  gap_by n p (stop (leaf k x)) h = refl
  gap_by n p (stop missing) h = absurd (h refl)
  gap_by n p (found r) h = go r.body refl
    where
      leafed : (k x : Bytes) (b : Bool) → is_gap (cond b (leaf_seen k x) (reading.stopped_by stray_leaf)) ≡ false
      leafed k x true = refl
      leafed k x false = refl

      go : (b : Body) → r.body ≡ b → is_gap (seen_met st formed n p (found r)) ≡ false
      go (leaf_body k x) e = rw e (leafed k x (begins p k))
      go (inner_body l c) e = rw e

  is_gap_lem : (n : ℕ) (p : Place) (c : Child) → is_gap (seen_at n (scan st) p c) ≡ eqb c.version 0
  is_gap_lem n p c = let (m, w) = at_child_lem st formed p c in ap is_gap (child_seen st formed n p c m w) ∙ go m w (eqb c.version 0) refl
    where
      go : (m : Met) → AtChild st p c m → (b : Bool) → eqb c.version 0 ≡ b → is_gap (seen_met st formed n p m) ≡ b
      go m w true e = ap (λ x. is_gap (seen_met st formed n p x)) (missing_met st formed p c m w (eqb-true c.version 0 e))
      go m w false e = gap_by n p m (not_missing st formed p c m w (eqb-false c.version 0 e))

  -- what a descent finds, by the end of its way
  abbrev DescentSays : Met → Stop → Descended → Type 0
  DescentSays m (stopped_by t) o = o ≡ descent_stopped t
  DescentSays m (leaf k x) o = (q : Presence) × (o ≡ reached q)
  DescentSays m missing o = m ≡ stop missing

  raise : (m d : Met) (steps : List Step) (end : Stop) (o : Descended) → DescentSays d end o → (d ≡ stop missing → ⊥) →
      DescentSays m end (raised_by steps o)
  raise m d steps (stopped_by t) o e h = ap (raised_by steps) e
  raise m d steps (leaf k x) o e h = (_, ap (raised_by steps) e.1)
  raise m d steps missing o e h = absurd (h e)

  other_present : (b : Side) (l r : Child) → (l.version ≡ 0 → r.version ≡ 0 → ⊥) → (child_on b l r).version ≡ 0 → Present (child_on (not b) l r)
  other_present false l r f e g = f e g
  other_present true l r f e g = f g e

  -- an inner record that is met at a child has a child
  has_child : (p : Place) (c : Child) (r : Record) (l d : Child) → AtChild st p c (found r) → r.body ≡ inner_body l d → l.version ≡ 0 → d.version ≡ 0 → ⊥
  has_child p c r l d a e = let h = (child_form st formed p c (found r) r a refl).0.body in (rw e at h).2

  descent_is : (b : Side) (before : List Inner) (p : Place) (c : Child) (m : Met) (passed : List Inner) (end : Stop) → Way st (to b) before p m passed end →
      AtChild st p c m → (n : ℕ) → length p + n ≡ 256 → DescentSays m end (descend b (seen_met st formed n p m))
  descent_is b before p c m passed end ended a n s = go end
    where
      go : (x : Stop) → DescentSays (stop x) x (descend b (seen_met st formed n p (stop x)))
      go (stopped_by t) = refl
      go (leaf k x) = (_, refl)
      go missing = refl
  descent_is b before p c m passed end (misplaced k x e f) a n s = rw (e, f)
  descent_is b before p c m passed end (at_leaf_lem k x e f) a n s = rw (e, f) (_, refl)
  descent_is b before p c m passed end (onward {r = r} l d e a' w) a zero s =
      absurd (omega (arith, inner_short p r l d e (child_above st formed p c (found r) a)))
  descent_is b before p c m passed end (onward {r = r} l d {met = met} e a' w) a (suc n) s =
      let t = to b p l d in
      let kid : Side → Descended = λ x. descend b (seen_at n (scan st) (longer x p) (child_on x l d)) in
      let below : DescentSays met end (kid t) =
      subst (λ x. DescentSays met end (descend b x)) (sym (child_seen st formed n (longer t p) (child_on t l d) met a'))
      (descent_is b (inner p l d ∷ before) (longer t p) (child_on t l d) met passed end w a' n (omega (arith, length_longer t p))) in
      subst (λ x. DescentSays (found r) end (descend b (seen_body p x (λ a k. seen_at n (scan st) (longer a p) k)))) (sym e)
      (rw (is_gap_lem n (longer b p) (child_on b l d))
      (go kid (step (not b) (child_on b l d).hash ∷ []) (step b (child_on (not b) l d).hash ∷ []) (eqb (child_on b l d).version 0) refl below a'))
    where
      go : (kid : Side → Descended) (xs ys : List Step) (t : Bool) → eqb (child_on b l d).version 0 ≡ t →
          DescentSays met end (kid (cond t (not b) b)) →
          AtChild st (longer (cond t (not b) b) p) (child_on (cond t (not b) b) l d) met →
          DescentSays (found r) end (cond t (raised_by xs (kid (not b))) (raised_by ys (kid b)))
      go kid xs ys true f g w =
          raise (found r) met xs end (kid (not b)) g
          (not_missing st formed (longer (not b) p) (child_on (not b) l d) met w
          (other_present b l d (has_child p c r l d a e) (eqb-true (child_on b l d).version 0 f)))
      go kid xs ys false f g w =
          raise (found r) met ys end (kid b) g (not_missing st formed (longer b p) (child_on b l d) met w (eqb-false (child_on b l d).version 0 f))

  -- a descent into a present child is stopped exactly if its way is
  abbrev Stuck : Side → Place → Child → Trouble → Type 0
  Stuck b p c t = (m : Met) × AtChild st p c m × (passed : List Inner) × Way st (to b) [] p m passed (stopped_by t)

  said_stuck : (b : Side) (p : Place) (c : Child) (n : ℕ) (t : Trouble) → length p + n ≡ 256 → Present c → descend b (seen_at n (scan st) p c) ≡ descent_stopped t →
      Stuck b p c t
  said_stuck b p c n t s h e =
      let (m, a) = at_child_lem st formed p c in
      let w = way_ends st formed n (to b) [] p m s (child_above st formed p c m a) in
      go m a w.0 w.1 w.2 (descent_is b [] p c m w.0 w.1 w.2 a n s) (ap (descend b) (sym (child_seen st formed n p c m a)) ∙ e)
    where
      go : (m : Met) → AtChild st p c m → (passed : List Inner) (end : Stop) → Way st (to b) [] p m passed end →
          DescentSays m end (descend b (seen_met st formed n p m)) → descend b (seen_met st formed n p m) ≡ descent_stopped t → Stuck b p c t
      go m a passed (stopped_by u) w g f = let z = sym g ∙ f in let same : u ≡ t = cc in (m, a, passed, subst (λ d. Way st (to b) [] p m passed (stopped_by d)) same w)
      go m a passed (leaf k x) w g f = let i = sym f ∙ g.1 in let z : ◌≡◌ {A = ℕ} 0 1 = cc in absurd (omega arith)
      go m a passed missing w g f = absurd (not_missing st formed p c m a h g)

  -- the records of a trail stand above the places of whole keys
  abbrev pub Short : Inner → Type 0
  Short i = length i.place < 256

  -- a pass turns away exactly at a fork
  turns : (b : Side) (k : Bytes) (i : Inner) → Short i →
      turns_away b (pass_of st formed k i) ≡ beq (bit (length i.place) k) (not b) && not (eqb (child_on b i.left i.right).version 0)
  unfolding turns_away
  turns b k i s =
      rw (is_gap_lem (255 - length i.place) (longer b i.place) (child_on b i.left i.right))

  forks : (b : Side) (k : Bytes) (i : Inner) → Short i → TurnedAway b k i → turns_away b (pass_of st formed k i) ≡ true
  forks b k i s f =
      turns b k i s ∙ rw (f.0, bit_same (not b), ne_eqb (child_on b i.left i.right).version 0 f.1)

  forked : (b : Side) (k : Bytes) (i : Inner) → Short i → turns_away b (pass_of st formed k i) ≡ true → TurnedAway b k i
  forked b k i s e =
      let d = (child_on b i.left i.right).version in
      let x = beq (bit (length i.place) k) (not b) in
      let f = sym (turns b k i s) ∙ e in
      (same_bit (bit (length i.place) k) (not b) (and_left x (not (eqb d 0)) f), eqb-false d 0 (off (eqb d 0) (and_right x (not (eqb d 0)) f)))
    where
      off : (t : Bool) → not t ≡ true → t ≡ false
      off true h = absurd (false≢true h)
      off false h = refl

  into : (b : Side) (i : Inner) → Descended
  into b i =
      descend (not b)
      (seen_at (255 - length i.place) (scan st) (longer b i.place) (child_on b i.left i.right))

  sought_lost : (steps : List Step) (o : Descended) (t : Trouble) → sought (raised_by steps o) ≡ search_stopped t → o ≡ descent_stopped t
  sought_lost steps (descent_stopped u) t e = let same : u ≡ t = cc in ap descent_stopped same
  sought_lost steps (reached q) t e = let z : ◌≡◌ {A = ℕ} 0 1 = cc in absurd (omega arith)

  -- the search from a trail
  deeper_by : (b : Side) (k : Bytes) (t : Trouble) (i : Inner) (is : List Inner) → (TurnedAway b k i → ⊥) → DescentLost st k is b t → DescentLost st k (i ∷ is) b t
  deeper_by b k t i is f w = record {
    deeper = i ∷ w.deeper;
    at = w.at;
    above = w.above;
    passed_are = ap (i ∷◌) w.passed_are;
    fork = w.fork;
    deepest = (f, w.deepest);
    met = w.met;
    child = w.child;
    descended = w.descended;
    stopped = w.stopped;
  }

  search_by : (b : Side) (k : Bytes) (u : Trouble) (i : Inner) (is : List Inner) (steps : List Step) (rest : Sought) → Short i →
      (rest ≡ search_stopped u → DescentLost st k is b u) → (t : Bool) → turns_away b (pass_of st formed k i) ≡ t →
      cond t (sought (raised_by steps (into b i))) rest ≡ search_stopped u → DescentLost st k (i ∷ is) b u
  unfolding into
  search_by b k u i is steps rest s below true e f =
      let g = forked b k i s e in
      let w = said_stuck (not b) (longer b i.place) (child_on b i.left i.right) (255 - length i.place) u
      (omega (arith, length_longer b i.place)) g.1 (sought_lost steps (into b i) u f) in
      record { deeper = []; at = i; above = is; passed_are = refl; fork = g; deepest = tt; met = w.0; child = w.1; descended = w.2; stopped = w.3 }
  search_by b k u i is steps rest s below false e f =
      deeper_by b k u i is (λ g. absurd (true≢false (sym (forks b k i s g) ∙ e))) (below f)

  pub search_said : (b : Side) (k : Bytes) (t : Trouble) (passed : List Inner) → All Short passed →
      from_trail b (map (pass_of st formed k) passed) ≡ search_stopped t → DescentLost st k passed b t
  unfolding into
  search_said b k t [] s e = let z : ◌≡◌ {A = ℕ} 0 1 = cc in absurd (omega arith)
  search_said b k t (i ∷ is) s e =
      search_by b k t i is _ (from_trail b (map (pass_of st formed k) is)) s.0 (λ f. search_said b k t is s.1 f)
      (turns_away b (pass_of st formed k i)) refl e

  lost_at : (b : Side) (k : Bytes) (t : Trouble) (deeper : List Inner) (i : Inner) (above : List Inner) → All Short (deeper ++ i ∷ above) → TurnedAway b k i →
      All (λ j. TurnedAway b k j → ⊥) deeper → into b i ≡ descent_stopped t → from_trail b (map (pass_of st formed k) (deeper ++ i ∷ above)) ≡ search_stopped t
  unfolding into
  lost_at b k t [] i above s f g e = rw (forks b k i s.0 f, e)
  lost_at b k t (j ∷ deeper) i above s f g e = rw (passes_by (turns_away b (pass_of st formed k j)) refl) (lost_at b k t deeper i above s.1 f g.1 e)
    where
      passes_by : (t : Bool) → turns_away b (pass_of st formed k j) ≡ t → turns_away b (pass_of st formed k j) ≡ false
      passes_by true h = absurd (g.0 (forked b k j s.0 h))
      passes_by false h = h

  pub said_search : (b : Side) (k : Bytes) (t : Trouble) (passed : List Inner) → All Short passed → DescentLost st k passed b t →
      from_trail b (map (pass_of st formed k) passed) ≡ search_stopped t
  unfolding into
  said_search b k t passed s w =
      let i = w.at in
      let short = subst (All Short) w.passed_are s in
      let p = longer b i.place in
      let c = child_on b i.left i.right in
      let n = 255 - length i.place in
      rw w.passed_are
      (lost_at b k t w.deeper i w.above short w.fork w.deepest
      (ap (descend (not b)) (child_seen st formed n p c w.met w.child)
      ∙ descent_is (not b) [] p c w.met w.descended (stopped_by t) w.stopped w.child n
      (omega (arith, length_longer b i.place, short_of w.deeper i w.above short))))
    where
      short_of : (deeper : List Inner) (i : Inner) (above : List Inner) → All Short (deeper ++ i ∷ above) → Short i
      short_of [] i above h = h.0
      short_of (j ∷ deeper) i above h = short_of deeper i above h.1
