-- A trail one inner node further: its steps have one more at their end, and what is seen there is what stands at the child. Assumes nothing.
use Prim.Native.Nat.{ℕ, zero, suc, ◌+◌, ◌-◌, ◌<◌}
use native.Mathlib.Omega.{arith}
use native.Mathlib.Numerals.{add-one}
use mathlib.Core.Path.{◌≡◌, refl, ap, ap₂, sym, ◌∙◌, subst}
use mathlib.Core.Bool.{Bool, true, false, cond}
use mathlib.Core.List.{List, [], ◌∷◌}
use lib.ListN.{length, get_or, set, length-set, get_or-append}
use lib.Seq.{get_or-set_same, get_or-set_other, get_or-append_seam}
use lib.Dec.{eqb}
use borrow.Author.Count.{below_more}
use Rattle.terms.specs.declared.Form.TheVariants.{Counted as counted}
use Rattle.terms.specs.Bits.{Bytes, Side, left, Place, longer, begins}
use Rattle.terms.specs.Records.{Child, Body, leaf_body, inner_body}
use Rattle.terms.proofs.Places.{length_longer}
use Rattle.meaning.specs.Sight.{Sight, matches, nothing, spoilt, Looking}
use Rattle.meaning.specs.Reading.{lost_record, stray_leaf, Seen, stopped_by, gap, leaf_seen, seen_body, seen_child, seen_at, seen}
use Rattle.meaning.specs.Proving.{is_gap}
use Rattle.indexed.specs.Index.{by_table}
use Rattle.place.specs.declared.Place as declared-place
use Rattle.place.specs.Place.{place_of, Stands, Grown}
use Rattle.place.proofs.Places.{proper_count}
use Rattle.layout.specs.Sizes.{room_of}
use Rattle.layout.specs.Headers.{size_right}
use Rattle.layout.specs.Stores.{store_of}
use Rattle.read_step.specs.Walk.{kid_in, seen_below, Sees}
use Rattle.read_step.specs.declared.Seen as declared-seen
use Rattle.read_step.specs.declared.Seen.TheVariants.{Gap, Stopped, Leaf, Inner}
use Rattle.prove_paths.specs.Paths.{step_at, steps_of}
use Rattle.prove_trails.specs.Trails.{shown_at, SeenIn, shown_by, steps_by, TrailIn, AtInner, Started, Further}
use Rattle.prove_trails.specs.declared.Trail as declared

-- what is seen, by the case of the answer
pub sees_shown : (s : Bytes) (table : List ℕ) (p : Place) (x : Seen) (r : declared-seen.Seen) → Sees s table p x r → shown_at s table p r ≡ x
sees_shown s table p x Gap e = sym e
sees_shown s table p x (Stopped t) e = sym e
sees_shown s table p x (Leaf i) e = sym e.1
sees_shown s table p x (Inner i) e = sym e.2

sees_in : (s : Bytes) (table : List ℕ) (p : Place) (x : Seen) (r : declared-seen.Seen) → Sees s table p x r → SeenIn s p r
sees_in s table p x Gap e = tt
sees_in s table p x (Stopped t) e = tt
sees_in s table p x (Leaf i) e = e.0
sees_in s table p x (Inner i) e = (e.0, e.1)

-- only a child that is not there is a gap
no_gap : (p : Place) (o : Sight) (kid : Side → Child → Seen) → is_gap (seen_child p o kid) ≡ false
no_gap p nothing kid = refl
no_gap p (spoilt i) kid = refl
no_gap p (matches r) kid = go r.body
  where
    either : (b : Bool) (k x : Bytes) → is_gap (cond b (leaf_seen k x) (stopped_by stray_leaf)) ≡ false
    either true k x = refl
    either false k x = refl

    go : (b : Body) → is_gap (seen_body p b kid) ≡ false
    go (leaf_body k x) = either (begins p k) k x
    go (inner_body l m) = refl

pub gap_test : (n : ℕ) (s : Looking) (p : Place) (c : Child) → is_gap (seen_at n s p c) ≡ eqb c.version 0
gap_test n s p c = by n
  where
    go : (b : Bool) (kid : Side → Child → Seen) → is_gap (cond b gap (seen_child p (s.node c.version p) kid)) ≡ b
    go true kid = refl
    go false kid = no_gap p (s.node c.version p) kid

    by : (n : ℕ) → is_gap (seen_at n s p c) ≡ eqb c.version 0
    by zero = go (eqb c.version 0) (λ b d. stopped_by lost_record)
    by (suc m) = go (eqb c.version 0) (λ b d. seen_at m s (longer b p) d)

-- steps agree where slots and sides do
pub steps_agree : (s : Bytes) (a b : List ℕ) (p q : Place) (n : ℕ) → ((j : ℕ) → j < n → get_or a j 0 ≡ get_or b j 0) →
    ((j : ℕ) → j < n → get_or p j left ≡ get_or q j left) → steps_of s a p n ≡ steps_of s b q n
steps_agree s a b p q zero f g = refl
steps_agree s a b p q (suc n) f g =
    ap₂ ◌∷◌ (ap₂ (step_at s) (f n (omega arith)) (g n (omega arith))) (steps_agree s a b p q n (λ j h. f j (omega arith)) (λ j h. g j (omega arith)))

pub set_below : (a : List ℕ) (n i j : ℕ) → j < n → get_or (set a n i) j 0 ≡ get_or a j 0
set_below a n i j h = get_or-set_other a n j i 0 (λ e. omega arith)

-- what is seen at a child, from its parent
pub kid_seen : (s : Bytes) (table : List ℕ) (b : Side) (p : Place) (c : Child) → seen_below s table (longer b p) c ≡ seen_at (255 - length p) (by_table table (store_of s)) (longer b p) c
unfolding seen_below
kid_seen s table b p c =
    let n : 256 - length (longer b p) ≡ 255 - length p = omega (arith, length_longer b p) in
    ap (λ (m : ℕ). seen_at m (by_table table (store_of s)) (longer b p) c) n

-- the trail at the root
pub started : (s : Bytes) (table : List ℕ) (v : ℕ) (x : declared-seen.Seen) (a : List ℕ) (p : declared-place.Place) → size_right counted (length s) ≡ true → length a ≡ 256 → Stands [] 0 p →
    Sees s table [] (seen (by_table table (store_of s)) v) x → Started s table v (record { seen = x; slots = a; place = p })
unfolding shown_by
started s table v x a p size long w e = record {
  trail = record {
    size = size;
    proper = w.proper;
    long = long;
    above = λ j h. absurd (omega (arith, w.count));
    seen = rw w.place (sees_in s table [] (seen (by_table table (store_of s)) v) x e);
  };
  count = w.count;
  shown = ap (λ q. shown_at s table q x) w.place ∙ sees_shown s table [] (seen (by_table table (store_of s)) v) x e;
}

-- one node further
pub gone_further : (s : Bytes) (table : List ℕ) (t : declared.Trail) (i : ℕ) (b : Side) (p : declared-place.Place) (x : declared-seen.Seen) → AtInner s t i → Grown b t.place p →
    Sees s table (place_of p) (seen_below s table (place_of p) (kid_in i s b)) x →
    Further s table t i b (record { seen = x; slots = set t.slots t.place.count i; place = p })
unfolding shown_by
gone_further s table t i b p x w g e =
    let n = t.place.count in
    let h : n < length t.slots = omega (arith, w.short, w.long) in
    let below : (j : ℕ) → j < n + 1 → get_or (set t.slots n i) j 0 < room_of counted (length s) =
    below_more (λ (j : ℕ). get_or (set t.slots n i) j 0 < room_of counted (length s)) n (λ j l. rw (set_below t.slots n i j l) (w.above j l)) (rw (get_or-set_same t.slots n i 0 h) w.inside)
    in
    record {
      trail = record {
        size = w.size;
        proper = g.proper;
        long = length-set t.slots n i ∙ w.long;
        above = λ j l. below j (omega (arith, g.count));
        seen = sees_in s table (place_of p) (seen_below s table (place_of p) (kid_in i s b)) x e;
      };
      place = g;
      slots = refl;
      shown = sees_shown s table (place_of p) (seen_below s table (place_of p) (kid_in i s b)) x e;
    }

module _ {s : Bytes} {table : List ℕ} {t : declared.Trail} {i : ℕ} {b : Side} {r : declared.Trail} (w : AtInner s t i) (f : Further s table t i b r) where
  pub slot_set : get_or r.slots t.place.count 0 ≡ i
  slot_set =
      ap (λ a. get_or a t.place.count 0) f.slots ∙ get_or-set_same t.slots t.place.count i 0 (omega (arith, w.short, w.long))

  pub slot_kept : (j : ℕ) → j < t.place.count → get_or r.slots j 0 ≡ get_or t.slots j 0
  slot_kept j h = ap (λ a. get_or a j 0) f.slots ∙ set_below t.slots t.place.count i j h

  -- its steps
  pub steps_further : steps_by s r ≡ step_at s i b ∷ steps_by s t
  unfolding steps_by longer
  steps_further =
      let n = t.place.count in
      let p = place_of t.place in
      let m = proper_count t.place w.proper in
      let end : get_or (longer b p) n left ≡ b = ap (λ (j : ℕ). get_or (longer b p) j left) (sym m) ∙ get_or-append_seam p b [] left in
      ap (λ q. steps_of s r.slots q r.place.count) f.place.place
      ∙ ap (steps_of s r.slots (longer b p)) (f.place.count ∙ add-one n)
      ∙ ap₂ ◌∷◌ (ap₂ (step_at s) slot_set end)
      (steps_agree s r.slots t.slots (longer b p) p n slot_kept (λ j h. get_or-append p (b ∷ []) left j (omega (arith, m))))

  -- what is seen at its end
  pub shown_further : shown_by s table r ≡ seen_at (255 - length (place_of t.place)) (by_table table (store_of s)) (longer b (place_of t.place)) (kid_in i s b)
  shown_further = f.shown ∙ ap (λ q. seen_below s table q (kid_in i s b)) f.place.place ∙ kid_seen s table b (place_of t.place) (kid_in i s b)

-- what is seen on each side of the inner node in slot i, at the end of a trail
abbrev pub kids_at : Bytes → List ℕ → declared.Trail → ℕ → Side → Seen
kids_at s table t i b = seen_at (255 - length (place_of t.place)) (by_table table (store_of s)) (longer b (place_of t.place)) (kid_in i s b)

-- a trail that ends at an inner node goes on there
pub at_inner : {s : Bytes} {t : declared.Trail} {i : ℕ} → TrailIn s t → t.seen ≡ Inner i → AtInner s t i
at_inner {s} {t} {i} w e =
    let k : SeenIn s (place_of t.place) (Inner i) = subst (SeenIn s (place_of t.place)) e w.seen in
    record {
      size = w.size;
      proper = w.proper;
      long = w.long;
      above = w.above;
      inside = k.0;
      short = omega (arith, k.1, proper_count t.place w.proper);
    }
