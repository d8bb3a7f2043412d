-- Every way ends, and what a read sees there is what the way says. By the bits that a place is short of a key; records in form keep inner
-- nodes above the places of whole keys. Assumes nothing.
use Prim.Native.Nat.{ℕ, zero, suc, ◌+◌, ◌-◌, ◌≤◌}
use native.Mathlib.Omega.{arith}
use mathlib.Core.Path.{◌≡◌, refl, ap, sym, ◌∙◌, subst}
use mathlib.Core.Bool.{Bool, true, false, cond}
use mathlib.Core.List.{List, [], ◌∷◌, map}
use lib.ListN.{length}
use lib.Dec.{eqb}
use borrow.Author.Tests.{eq-eqb, ne_eqb, eqb-true, eqb-false}
use Rattle.terms.specs.Bits.{Bytes, Side, Place, longer, bit, begins}
use Rattle.terms.specs.Records.{Child, Body, leaf_body, inner_body, Record, Store}
use Rattle.terms.specs.Form.{RecordForm, place_limit}
use Rattle.terms.proofs.Places.{length_longer}
use Rattle.meaning.specs.Store.{child_on}
use Rattle.meaning.specs.Sound.{At}
use Rattle.meaning.specs.Reading.{Seen, gap, leaf_seen, seen_body, seen_child, seen_root, seen_at, seen, Pass, End, walk_stopped, at_leaf, at_gap, walk}
use Rattle.meaning.specs.Sight.{Sight, matches, nothing, spoilt, node_sight, root_sight, scan}
use Rattle.meaning.specs.Reading.{lost_record, stray_leaf}
use Rattle.meaning.specs.Reading as reading
use Rattle.meaning.proofs.Finding.{found_at}
use Rattle.ways.proofs.Spoilt.{met_by, node_meets, node_met, root_met}
use Rattle.ways.specs.Ways.{by_key, Inner, Stop, stopped_by, leaf, missing, Met, stop, found, first, second, third, AtRoot, AtChild, no_child, child, Way, ended, misplaced, at_leaf_lem, onward}

-- records are in form, as those of every store read from bytes are
abbrev pub Formed : Store → Type 0
Formed st = (i : ℕ) (r : Record) → At st i r → RecordForm r

-- which way to go below an inner record
abbrev pub Rule : Type 0
Rule = Place → Child → Child → Side

-- a child is present
abbrev pub Present : Child → Type 0
Present c = c.version ≡ 0 → ⊥

abbrev pub inner : Place → Child → Child → Inner
inner p l r = record { place = p; left = l; right = r }

clash : {A : Type 0} → ◌≡◌ {A = ℕ} 0 1 → A
clash e = absurd (omega arith)

-- what is met at a place can stand there
abbrev pub Above : Place → Met → Type 0
Above p (stop x) = Unit {0}
Above p (found r) = length p ≤ place_limit r.body

pub inner_short : (p : Place) (r : Record) (l m : Child) → r.body ≡ inner_body l m → length p ≤ place_limit r.body → length p ≤ 255
inner_short p r l m e h = subst (λ b. length p ≤ place_limit b) e h

pub root_above_lem : (m : Met) → Above [] m
root_above_lem (stop x) = tt
root_above_lem (found r) = omega arith

module _ (st : Store) (formed : Formed st) where
  -- so is what is met at a child
  pub child_form : (p : Place) (c : Child) (m : Met) (r : Record) → AtChild st p c m → m ≡ found r → RecordForm r × (r.place ≡ p)
  child_form p c m r (no_child e) q = clash (cc)
  child_form p c m r (child h (first {r = s} e)) q =
      let same : s ≡ r = cc in
      let (i, a, w, f) = found_at st c.version p s e in
      subst (λ x. RecordForm x × (x.place ≡ p)) same (formed i s a, f)
  child_form p c m r (child h (second e w)) q = clash (cc)
  child_form p c m r (child h (third e w)) q = clash (cc)

  pub child_above : (p : Place) (c : Child) (m : Met) → AtChild st p c m → Above p m
  child_above p c (stop x) w = tt
  child_above p c (found r) w = let f = child_form p c (found r) r w refl in subst (λ q. length q ≤ place_limit r.body) f.1 f.0.short

  -- no child is missing that is present
  pub not_missing : (p : Place) (c : Child) (m : Met) → AtChild st p c m → Present c → m ≡ stop missing → ⊥
  not_missing p c m (no_child e) h q = h e
  not_missing p c m (child h (first e)) g q = clash (cc)
  not_missing p c m (child h (second e w)) g q = clash (cc)
  not_missing p c m (child h (third e w)) g q = clash (cc)

  pub missing_met : (p : Place) (c : Child) (m : Met) → AtChild st p c m → c.version ≡ 0 → m ≡ stop missing
  missing_met p c m (no_child e) z = refl
  missing_met p c m (child h w) z = absurd (h z)

  -- something is met at every child
  pub at_child_lem : (p : Place) (c : Child) → (m : Met) × AtChild st p c m
  at_child_lem p c = go (eqb c.version 0) refl
    where
      go : (b : Bool) → eqb c.version 0 ≡ b → (m : Met) × AtChild st p c m
      go true e = (stop missing, no_child (eqb-true c.version 0 e))
      go false e = (met_by (stopped_by lost_record) (node_sight st c.version p), child (eqb-false c.version 0 e) (node_meets st c.version (stopped_by lost_record) p))

  -- what is seen of what is met, n bits short of a key
  abbrev kids_at : ℕ → Place → Side → Child → Seen
  kids_at zero p = λ b d. reading.stopped_by lost_record
  kids_at (suc n) p = λ b d. seen_at n (scan st) (longer b p) d

  abbrev pub seen_met : ℕ → Place → Met → Seen
  seen_met n p (stop (stopped_by t)) = reading.stopped_by t
  seen_met n p (stop (leaf k x)) = leaf_seen k x
  seen_met n p (stop missing) = gap
  seen_met n p (found r) = seen_body p r.body (kids_at n p)

  seen_is : (n : ℕ) (p : Place) (c : Child) → seen_at n (scan st) p c ≡ cond (eqb c.version 0) gap (seen_child p (node_sight st c.version p) (kids_at n p))
  seen_is zero p c = refl
  seen_is (suc n) p c = refl

  sight_met : (n : ℕ) (p : Place) (x : Sight) → seen_child p x (kids_at n p) ≡ seen_met n p (met_by (stopped_by lost_record) x)
  sight_met n p (matches r) = refl
  sight_met n p nothing = refl
  sight_met n p (spoilt i) = refl

  pub child_seen : (n : ℕ) (p : Place) (c : Child) (m : Met) → AtChild st p c m → seen_at n (scan st) p c ≡ seen_met n p m
  child_seen n p c m (no_child e) = seen_is n p c ∙ rw (eq-eqb c.version 0 e)
  child_seen n p c m (child h w) =
      seen_is n p c ∙ rw (ne_eqb c.version 0 h)
      (sight_met n p (node_sight st c.version p) ∙ ap (seen_met n p) (node_met st c.version (stopped_by lost_record) p m w))

  pub root_seen : (v : ℕ) (m : Met) → AtRoot st v m → seen (scan st) v ≡ seen_met 256 [] m
  unfolding seen longer
  root_seen v m w = go (root_sight st v) ∙ ap (seen_met 256 []) (root_met st v m w)
    where
      go : (x : Sight) → seen_root x (λ b d. seen_at 255 (scan st) (b ∷ []) d) ≡ seen_met 256 [] (met_by missing x)
      go (matches r) = refl
      go nothing = refl
      go (spoilt i) = refl

  -- every way ends
  abbrev pub Ends : Rule → List Inner → Place → Met → Type 0
  Ends rule before p m = (passed : List Inner) × (end : Stop) × Way st rule before p m passed end

  ends_by : (rule : Rule) (before : List Inner) (p : Place) (r : Record) → ((l c : Child) → r.body ≡ inner_body l c → Ends rule before p (found r)) →
      Ends rule before p (found r)
  ends_by rule before p r go = by_body r.body refl
    where
      at_begins : (k x : Bytes) → r.body ≡ leaf_body k x → (b : Bool) → begins p k ≡ b → Ends rule before p (found r)
      at_begins k x e true f = (before, leaf k x, at_leaf_lem k x e f)
      at_begins k x e false f = (before, stopped_by stray_leaf, misplaced k x e f)

      by_body : (b : Body) → r.body ≡ b → Ends rule before p (found r)
      by_body (leaf_body k x) e = at_begins k x e (begins p k) refl
      by_body (inner_body l c) e = go l c e

  pub way_ends : (n : ℕ) (rule : Rule) (before : List Inner) (p : Place) (m : Met) → length p + n ≡ 256 → Above p m → Ends rule before p m
  way_ends zero rule before p (stop x) s h = (before, x, ended)
  way_ends (suc n) rule before p (stop x) s h = (before, x, ended)
  way_ends zero rule before p (found r) s h = ends_by rule before p r (λ l c e. absurd (omega (arith, inner_short p r l c e h)))
  way_ends (suc n) rule before p (found r) s h =
      ends_by rule before p r
      (λ l c e.
      let b = rule p l c in
      let a = at_child_lem (longer b p) (child_on b l c) in
      let w = way_ends n rule (inner p l c ∷ before) (longer b p) a.0 (omega (arith, length_longer b p)) (child_above (longer b p) (child_on b l c) a.0 a.1) in
      (w.0, w.1, onward l c e a.1 w.2))

  -- an inner record that was passed, as a walk notes it
  abbrev pub pass_of : Bytes → Inner → Pass
  pass_of k i = record {
    turn = bit (length i.place) k;
    hashes = λ b. (child_on b i.left i.right).hash;
    kids = λ b. seen_at (255 - length i.place) (scan st) (longer b i.place) (child_on b i.left i.right);
  }

  abbrev pub end_of : Bytes → List Inner → Stop → End
  end_of k passed (stopped_by t) = walk_stopped t
  end_of k passed (leaf l x) = at_leaf l x (map (pass_of k) passed)
  end_of k passed missing = at_gap (map (pass_of k) passed)

  -- the walk ends as the way says
  stop_is : (k : Bytes) (before : List Inner) (n : ℕ) (p : Place) (i : ℕ) (x : Stop) → walk k i (map (pass_of k) before) (seen_met n p (stop x)) ≡ end_of k before x
  stop_is k before n p i (stopped_by t) = refl
  stop_is k before n p i (leaf l x) = refl
  stop_is k before n p i missing = refl

  pub walk_is : (k : Bytes) (before : List Inner) (p : Place) (m : Met) (passed : List Inner) (end : Stop) → Way st (by_key k) before p m passed end →
      (n i : ℕ) → i ≡ length p → length p + n ≡ 256 → Above p m → walk k i (map (pass_of k) before) (seen_met n p m) ≡ end_of k passed end
  walk_is k before p m passed end ended n i f s h = stop_is k before n p i end
  walk_is k before p m passed end (misplaced l x e f) n i g s h = rw (e, f)
  walk_is k before p m passed end (at_leaf_lem l x e f) n i g s h = rw (e, f)
  walk_is k before p m passed end (onward {r = r} l c e a w) zero i g s h = absurd (omega (arith, inner_short p r l c e h))
  walk_is k before p m passed end (onward {r = r} l c {met = met} e a w) (suc n) i g s h =
      let b = bit (length p) k in
      let less : n ≡ 255 - length p = omega arith in
      rw (e, g)
      (ap (λ j. walk k (suc (length p))
      (record {
        turn = b;
        hashes = λ t. (child_on t l c).hash;
        kids = λ t. seen_at j (scan st) (longer t p) (child_on t l c);
      } ∷ map (pass_of k) before) (seen_at n (scan st) (longer b p) (child_on b l c))) less
      ∙ ap (walk k (suc (length p)) (map (pass_of k) (inner p l c ∷ before))) (child_seen n (longer b p) (child_on b l c) met a)
      ∙ walk_is k (inner p l c ∷ before) (longer b p) met passed end w n (suc (length p)) (sym (length_longer b p))
      (omega (arith, length_longer b p)) (child_above (longer b p) (child_on b l c) met a))
