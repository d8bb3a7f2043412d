-- On any store in form a proof is refused with 14 exactly where no root is found: an inner record has a child, so a walk that ends at a
-- missing one has turned away from a child, and one that ends at another key has that leaf beside it. Assumes nothing.
use Prim.Native.Nat.{ℕ, zero, suc}
use native.Mathlib.Omega.{arith}
use mathlib.Core.Path.{◌≡◌, refl, ap, sym, ◌∙◌, subst}
use mathlib.Core.Logic.{◌↔◌}
use mathlib.Core.Bool.{Bool, true, false, cond, not, true≢false, false≢true}
use mathlib.Core.List.{List, [], ◌∷◌, map}
use mathlib.Core.Option.{some}
use lib.Dec.{eqb}
use borrow.Author.Tests.{eqb-true}
use Rattle.terms.specs.Bits.{Bytes, Side, left, right, Place, longer, bit, before, begins, same_bytes}
use Rattle.terms.specs.Records.{Child, Body, leaf_body, inner_body, Record, Store, Presence, presence}
use Rattle.terms.specs.Form.{BodyForm, RecordForm}
use Rattle.terms.proofs.Tests.{bytes_same}
use Rattle.terms.proofs.Order.{before_total}
use Rattle.meaning.specs.Store.{root_of, child_on}
use Rattle.meaning.specs.Sight.{Sight, matches, nothing, spoilt, scan}
use Rattle.meaning.specs.Sound.{At}
use Rattle.meaning.specs.Calls.{Answer, refused, accepted, is_kept}
use Rattle.meaning.specs.Reading.{Trouble, lost_record, spoilt_record, stray_leaf, beside, refusal_of, Seen, stopped_by, gap, leaf_seen, fork, seen_body, seen_child, seen_at, seen_root, seen, Pass, End, walk_stopped, at_leaf, at_gap, walk}
use Rattle.meaning.specs.Proving.{step, presence_of, step_up, is_gap, Descended, descent_stopped, reached, raised_by, descend, Sought, search_stopped, nobody, somebody, sought, turns_away, beyond, neighbour, absence_from, absence_at, prove_end, prove_seen, proof}
use Rattle.meaning.proofs.Finding.{found_at}
use Rattle.meaning.proofs.Roots.{root_at_lem}
use Rattle.meaning.proofs.Sights.{sighted_root, sighted_node}
use Rattle.meaning.proofs.Empty.{nothing_seen, gap_refused, proof_by_searches}
use Rattle.shown.proofs.SeenAt.{root_spoilt}

-- each inner node that is seen has a child
abbrev Forked : Seen → Type 0
Forked (stopped_by t) = Unit {0}
Forked gap = Unit {0}
Forked (leaf_seen k x) = Unit {0}
Forked (fork hashes kids) = (is_gap (kids left) ≡ true → is_gap (kids right) ≡ true → ⊥) × ((b : Side) → Forked (kids b))

-- if one side has no child, the other has
other_kid : (b : Side) (kids : Side → Seen) → (is_gap (kids left) ≡ true → is_gap (kids right) ≡ true → ⊥) → is_gap (kids b) ≡ true →
    is_gap (kids (not b)) ≡ false
other_kid b kids h e = go b (is_gap (kids (not b))) refl e
  where
    go : (b : Side) (g : Bool) → is_gap (kids (not b)) ≡ g → is_gap (kids b) ≡ true → g ≡ false
    go b false f e = refl
    go false true f e = absurd (h e f)
    go true true f e = absurd (h f e)

-- how a walk for k may end where something is seen: lost, at the key, or with a search that finds somebody or gives 3
data Ends (k : Bytes) (e : End) : Type 0 where
  lost_way : (t : Trouble) → e ≡ walk_stopped t → Ends k e
  at_key : (l x : Bytes) (trail : List Pass) → e ≡ at_leaf l x trail → same_bytes k l ≡ true → Ends k e
  flanked : (b : Side) → (neighbour b k e ≡ nobody → ⊥) → Ends k e

somebody_met : (p : Presence) → somebody p ≡ nobody → ⊥
somebody_met p e = let z : ◌≡◌ {A = ℕ} 0 1 = cc in absurd (omega arith)

sought_met : (o : Descended) → sought o ≡ nobody → ⊥
sought_met (descent_stopped t) e = let z : ◌≡◌ {A = ℕ} 0 1 = cc in absurd (omega arith)
sought_met (reached p) e = somebody_met p e

leaf_ends : (k l x : Bytes) (trail : List Pass) → Ends k (at_leaf l x trail)
leaf_ends k l x trail = go (same_bytes k l) (before l k) (before k l) refl refl refl
  where
    go : (a b c : Bool) → same_bytes k l ≡ a → before l k ≡ b → before k l ≡ c → Ends k (at_leaf l x trail)
    go true b c e f g = at_key l x trail refl e
    go false true c e f g = flanked left (λ n. somebody_met _ (rw f at n))
    go false false true e f g = flanked right (λ n. somebody_met _ (rw g at n))
    go false false false e f g = absurd (true≢false (sym (bytes_same k) ∙ ap (same_bytes k) (sym (before_total l k f g)) ∙ e))

-- the walk wanted to go to side b, where there is no child, and there is one on the other
gap_ends : (k : Bytes) (b : Side) (hashes : Side → Bytes) (kids : Side → Seen) (trail : List Pass) → is_gap (kids (not b)) ≡ false →
    Ends k (at_gap (record { turn = b; hashes = hashes; kids = kids } ∷ trail))
unfolding turns_away
gap_ends k false hashes kids trail e =
    flanked true (λ n. sought_met (raised_by (step true (hashes false) ∷ map step_up trail) (descend false (kids true))) (rw e at n))
gap_ends k true hashes kids trail e =
    flanked false (λ n. sought_met (raised_by (step false (hashes true) ∷ map step_up trail) (descend true (kids false))) (rw e at n))

gap_is : (s : Seen) → is_gap s ≡ true → s ≡ gap
gap_is (stopped_by t) e = absurd (false≢true e)
gap_is gap e = refl
gap_is (leaf_seen k x) e = absurd (false≢true e)
gap_is (fork hashes kids) e = absurd (false≢true e)

walk_ends : (k : Bytes) (i : ℕ) (trail : List Pass) (s : Seen) → Forked s → is_gap s ≡ false → Ends k (walk k i trail s)
walk_ends k i trail (stopped_by t) f e = lost_way t refl
walk_ends k i trail gap f e = absurd (true≢false e)
walk_ends k i trail (leaf_seen l x) f e = leaf_ends k l x trail
walk_ends k i trail (fork hashes kids) f e = go (is_gap (kids (bit i k))) refl (walk_ends k (suc i) (p ∷ trail) (kids (bit i k)) (f.1 (bit i k)))
  where
    p : Pass
    p = record { turn = bit i k; hashes = hashes; kids = kids }

    go : (g : Bool) → is_gap (kids (bit i k)) ≡ g → (is_gap (kids (bit i k)) ≡ false → Ends k (walk k (suc i) (p ∷ trail) (kids (bit i k)))) →
        Ends k (walk k (suc i) (p ∷ trail) (kids (bit i k)))
    go true h below =
        subst (λ s. Ends k (walk k (suc i) (p ∷ trail) s)) (sym (gap_is (kids (bit i k)) h))
        (gap_ends k (bit i k) hashes kids trail (other_kid (bit i k) kids f.0 h))
    go false h below = below h

-- so 14 is not given there
other_number : {A : Type 0} (t : Trouble) → refusal_of t ≡ 14 → A
unfolding beside
other_number lost_record e = absurd (omega arith)
other_number (spoilt_record i) e = absurd (omega arith)
other_number stray_leaf e = absurd (omega arith)

both_nobody : (k : Bytes) (x y : Sought) → absence_from k x y ≡ refused 14 → (x ≡ nobody) × (y ≡ nobody)
both_nobody k (search_stopped t) y e = other_number t (cc)
both_nobody k nobody (search_stopped t) e = other_number t (cc)
both_nobody k nobody nobody e = (refl, refl)
both_nobody k nobody (somebody q) e = let z : ◌≡◌ {A = ℕ} 0 1 = cc in absurd (omega arith)
both_nobody k (somebody p) (search_stopped t) e = other_number t (cc)
both_nobody k (somebody p) nobody e = let z : ◌≡◌ {A = ℕ} 0 1 = cc in absurd (omega arith)
both_nobody k (somebody p) (somebody q) e = let z : ◌≡◌ {A = ℕ} 0 1 = cc in absurd (omega arith)

absence_given : (k : Bytes) (e : End) (b : Side) → (neighbour b k e ≡ nobody → ⊥) → absence_at k e ≡ refused 14 → ⊥
unfolding absence_at
absence_given k e false m f = m (both_nobody k (neighbour left k e) (neighbour right k e) f).0
absence_given k e true m f = m (both_nobody k (neighbour left k e) (neighbour right k e) f).1

not_fourteen : (k : Bytes) (e : End) → Ends k e → prove_end k e ≡ refused 14 → ⊥
not_fourteen k e (lost_way t w) f = let g : prove_end k (walk_stopped t) ≡ refused 14 = sym (ap (prove_end k) w) ∙ f in other_number t (cc)
not_fourteen k e (at_key l x trail w same) f =
    let g : prove_end k (at_leaf l x trail) ≡ refused 14 = sym (ap (prove_end k) w) ∙ f in
    let z : ◌≡◌ {A = ℕ} 0 1 = let h = rw same at g in cc in omega arith
not_fourteen k (walk_stopped t) (flanked b m) f = other_number t (cc)
not_fourteen k (at_leaf l x trail) (flanked b m) f = go (same_bytes k l) f
  where
    go : (c : Bool) → cond c (accepted (presence (presence_of l x (map step_up trail)))) (absence_at k (at_leaf l x trail)) ≡ refused 14 → ⊥
    go true g = let z : ◌≡◌ {A = ℕ} 0 1 = cc in omega arith
    go false g = absence_given k (at_leaf l x trail) b m g
not_fourteen k (at_gap trail) (flanked b m) f = absence_given k (at_gap trail) b m f

seen_or_fourteen : (k : Bytes) (s : Seen) → Forked s → prove_seen k s ≡ refused 14 → is_gap s ≡ true
unfolding prove_seen
seen_or_fourteen k s f e = go (is_gap s) refl
  where
    go : (g : Bool) → is_gap s ≡ g → g ≡ true
    go true h = refl
    go false h = absurd (not_fourteen k (walk k 0 [] s) (walk_ends k 0 [] s f h) e)

-- what is seen in a store whose records are in form
module _ (st : Store) (formed : (i : ℕ) (r : Record) → At st i r → RecordForm r) where
  body_forked : (p : Place) (o : Body) (kid : Side → Child → Seen) → BodyForm o → ((b : Side) (c : Child) → Forked (kid b c)) →
      ((b : Side) (c : Child) → is_gap (kid b c) ≡ true → c.version ≡ 0) → (is_gap (seen_body p o kid) ≡ false) × Forked (seen_body p o kid)
  body_forked p (leaf_body k x) kid f h none_there = go (begins p k)
    where
      go : (b : Bool) → (is_gap (cond b (leaf_seen k x) (stopped_by stray_leaf)) ≡ false) × Forked (cond b (leaf_seen k x) (stopped_by stray_leaf))
      go true = (refl, tt)
      go false = (refl, tt)
  body_forked p (inner_body l r) kid f h none_there =
      (refl, (λ a b. f.2 (none_there left l a) (none_there right r b), λ b. h b (child_on b l r)))

  child_forked : (p : Place) (c : Child) (kid : Side → Child → Seen) → ((b : Side) (d : Child) → Forked (kid b d)) →
      ((b : Side) (d : Child) → is_gap (kid b d) ≡ true → d.version ≡ 0) →
      (s : Seen) → s ≡ cond (eqb c.version 0) gap (seen_child p ((scan st).node c.version p) kid) →
      (is_gap s ≡ true → c.version ≡ 0) × Forked s
  child_forked p c kid h none_there s e = go (eqb c.version 0) ((scan st).node c.version p) refl refl
    where
      go : (b : Bool) (o : Sight) → eqb c.version 0 ≡ b → (scan st).node c.version p ≡ o → (is_gap s ≡ true → c.version ≡ 0) × Forked s
      go true o f g = let is : s ≡ gap = e ∙ rw f in (λ _. eqb-true c.version 0 f, subst Forked (sym is) tt)
      go false nothing f g =
          let is : s ≡ stopped_by lost_record = e ∙ rw (f, g) in (λ a. absurd (false≢true (sym (ap is_gap is) ∙ a)), subst Forked (sym is) tt)
      go false (spoilt i) f g =
          let is : s ≡ stopped_by (spoilt_record i) = e ∙ rw (f, g) in (λ a. absurd (false≢true (sym (ap is_gap is) ∙ a)), subst Forked (sym is) tt)
      go false (matches r) f g =
          let is : s ≡ seen_body p r.body kid = e ∙ rw (f, g) in
          let (i, a, _, _) = found_at st c.version p r (sighted_node st c.version p r g) in
          let w = body_forked p r.body kid (formed i r a).body h none_there in
          (λ a. absurd (false≢true (sym w.0 ∙ sym (ap is_gap is) ∙ a)), subst Forked (sym is) w.1)

  at_forked : (n : ℕ) (p : Place) (c : Child) → (is_gap (seen_at n (scan st) p c) ≡ true → c.version ≡ 0) × Forked (seen_at n (scan st) p c)
  at_forked zero p c = child_forked p c (λ b d. stopped_by lost_record) (λ b d. tt) (λ b d e. absurd (false≢true e)) _ refl
  at_forked (suc n) p c =
      child_forked p c (λ b d. seen_at n (scan st) (longer b p) d) (λ b d. (at_forked n (longer b p) d).1)
      (λ b d. (at_forked n (longer b p) d).0) _ refl

  -- a root that is found is seen, and all below it
  root_forked : (n v : ℕ) (r : Record) → root_of st v ≡ some r →
      (is_gap (seen_body [] r.body (λ b d. seen_at n (scan st) (b ∷ []) d)) ≡ false)
      × Forked (seen_body [] r.body (λ b d. seen_at n (scan st) (b ∷ []) d))
  root_forked n v r e =
      let (i, a, _, _) = root_at_lem st v r e in
      body_forked [] r.body (λ b d. seen_at n (scan st) (b ∷ []) d) (formed i r a).body (λ b d. (at_forked n (b ∷ []) d).1)
      (λ b d. (at_forked n (b ∷ []) d).0)

  rooted : (v : ℕ) (k : Bytes) (r : Record) → (scan st).root v ≡ matches r → prove_seen k (seen (scan st) v) ≡ refused 14 → ⊥
  unfolding seen
  rooted v k r e f =
      let w = root_forked 255 v r (sighted_root st v r e) in
      let is : seen (scan st) v ≡ seen_body [] r.body (λ b d. seen_at 255 (scan st) (b ∷ []) d)
      = ap (λ o. seen_root o (λ b d. seen_at 255 (scan st) (b ∷ []) d)) e in
      false≢true (sym w.0 ∙ seen_or_fourteen k _ w.1 (sym (ap (prove_seen k) is) ∙ f))

  spoilt_root : (v : ℕ) (k : Bytes) (i : ℕ) → (scan st).root v ≡ spoilt i → prove_seen k (seen (scan st) v) ≡ refused 14 → ⊥
  spoilt_root v k i e f =
      false≢true (seen_or_fourteen k (stopped_by (spoilt_record i)) tt (sym (ap (prove_seen k) (root_spoilt (scan st) v i e)) ∙ f))

  -- 14 is given exactly if the version is kept and it is empty: no slot matches a root for it, and none that is spoilt agrees.
  pub fourteen_exactly_without_root : (v : ℕ) (k : Bytes) → (proof st v k ≡ refused 14) ↔ ((is_kept st v ≡ true) × ((scan st).root v ≡ nothing))
  fourteen_exactly_without_root v k = (λ e. there (is_kept st v) refl (sym (proof_by_searches st v k) ∙ e), back)
    where
      empty : prove_seen k (seen (scan st) v) ≡ refused 14 → (o : Sight) → (scan st).root v ≡ o → o ≡ nothing
      empty e nothing f = refl
      empty e (matches r) f = absurd (rooted v k r f e)
      empty e (spoilt i) f = absurd (spoilt_root v k i f e)

      there : (b : Bool) → is_kept st v ≡ b → cond b (prove_seen k (seen (scan st) v)) (refused 8) ≡ refused 14 →
          (is_kept st v ≡ true) × ((scan st).root v ≡ nothing)
      there true kept e = (kept, empty e _ refl)
      there false kept e = let z : ◌≡◌ {A = ℕ} 8 14 = cc in absurd (omega arith)

      back : (is_kept st v ≡ true) × ((scan st).root v ≡ nothing) → proof st v k ≡ refused 14
      back (kept, e) =
          proof_by_searches st v k
          ∙ ap (λ b. cond b (prove_seen k (seen (scan st) v)) (refused 8)) kept
          ∙ gap_refused k (seen (scan st) v) (nothing_seen (scan st) v e)
