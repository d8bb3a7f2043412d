-- The walk by its trail: each turn passes one inner node, whose step is the trail's next, and the deepest fork towards a side is where the
-- definition's search from the nodes passed goes on. Assumes nothing.
use Prim.Native.Nat.{ℕ, suc, ◌+◌, ◌-◌, ◌<◌}
use native.Mathlib.Omega.{arith}
use native.Mathlib.Numerals.{add-one}
use mathlib.Core.Path.{◌≡◌, refl, ap, ap₂, sym, ◌∙◌, subst}
use mathlib.Core.Bool.{Bool, true, false, cond, ◌&&◌, not, beq}
use mathlib.Core.List.{List, [], ◌∷◌, map}
use lib.ListN.{length, get_or}
use mathlib.Core.Logic.{⊎_elim}
use types.Run.{OneOf}
use denote.Enum.Declared.{tag_of}
use lib.Dec.{eqb}
use Rattle.std.specs.Prelude.{Some, None}
use Rattle.std.specs.declared.option.Option as option
use Rattle.terms.specs.Bits.{Bytes, Side, left, Place, longer, bit}
use Rattle.terms.specs.Records.{Step}
use Rattle.meaning.specs.Reading.{fork, seen_at, seen, Pass, walk}
use Rattle.meaning.specs.Proving.{step_up, raised_by, descend, Sought, nobody, sought, turns_away, from_trail}
use Rattle.indexed.specs.Index.{by_table}
use Rattle.place.specs.declared.Place as declared-place
use Rattle.place.specs.Place.{place_of, Proper}
use Rattle.layout.specs.Stores.{store_of}
use Rattle.read_step.specs.Walk.{kid_in, fork_at}
use Rattle.read_step.specs.declared.Seen as declared-seen
use Rattle.read_step.specs.declared.Seen.TheVariants.{Inner}
use Rattle.read_step.specs.contracts.Seen as Seen
use Rattle.prove_paths.specs.Paths.{step_at, steps_of}
use Rattle.prove_turns.specs.Forks.{fork_after}
use Rattle.prove_trails.specs.Trails.{shown_at, shown_by, steps_by, AtInner, Started, Further, sideways, fork_says, ForkIn, fork_on, Walking, Walks}
use Rattle.prove_trails.specs.declared.Trail as declared
use Rattle.prove_trails.proofs.Trails.{kids_at, gap_test, steps_agree, slot_set, slot_kept, steps_further, shown_further, at_inner}

-- no fork yet
pub walking_start : (s : Bytes) (table : List ℕ) (v : ℕ) (k : Bytes) (t : declared.Trail) → Started s table v t → Walking s table v k t None None
unfolding steps_by
walking_start s table v k t w = record {
  trail = w.trail;
  fork = λ b. fork_of b;
  passes = [];
  walked = ap (walk k 0 []) (sym w.shown) ∙ ap (λ (n : ℕ). walk k n [] (shown_by s table t)) (sym w.count);
  steps = no_steps;
  found = λ b. found_of_lem b;
}
  where
    fork_of : (b : Side) → ForkIn t.place.count (fork_on b None None)
    fork_of false = tt
    fork_of true = tt

    no_steps : [] ≡ steps_by s t
    no_steps = ap (steps_of s t.slots (place_of t.place)) (sym w.count)

    found_of_lem : (b : Side) → nobody ≡ fork_says s table t.slots b (fork_on b None None)
    found_of_lem false = refl
    found_of_lem true = refl

-- from the inner node in slot i into its child on side b, with these steps above it
abbrev sideways_from : Bytes → List ℕ → Place → ℕ → List Step → Side → Sought
sideways_from s table p i steps b =
    sought (raised_by (step_at s i b ∷ steps) (descend (not b) (seen_at (255 - length p) (by_table table (store_of s)) (longer b p) (kid_in i s b))))

sideways_is : (s : Bytes) (table : List ℕ) (slots : List ℕ) (b : Side) (p : declared-place.Place) (i : ℕ) (steps : List Step) → get_or slots p.count 0 ≡ i →
    steps_of s slots (place_of p) p.count ≡ steps → sideways s table slots b p ≡ sideways_from s table (place_of p) i steps b
unfolding sideways
sideways_is s table slots b p i steps e f = ap₂ (λ (j : ℕ) u. sideways_from s table (place_of p) j u b) e f

either_fork : (s : Bytes) (table : List ℕ) (slots : List ℕ) (b : Side) (here f : option.Option declared-place.Place) (d : Bool) {x y : Sought} → x ≡ fork_says s table slots b here → y ≡ fork_says s table slots b f →
    cond d x y ≡ fork_says s table slots b (cond d here f)
either_fork s table slots b here f true e g = e
either_fork s table slots b here f false e g = g

either_in : (n : ℕ) (here f : option.Option declared-place.Place) (d : Bool) → ForkIn n here → ForkIn n f → ForkIn n (cond d here f)
either_in n here f true e g = e
either_in n here f false e g = g

module _ {s : Bytes} {table : List ℕ} {t : declared.Trail} {i : ℕ} {turn : Side} {r : declared.Trail} (w : AtInner s t i) (g : Further s table t i turn r) where
  -- the node passed
  abbrev pass : Side → Pass
  pass c = record {
    turn = c;
    hashes = λ b. (kid_in i s b).hash;
    kids = kids_at s table t i;
  }

  step_up_lem : step_up (pass turn) ≡ step_at s i turn
  unfolding step_at
  step_up_lem = refl

  -- a fork above stays
  sideways_kept : (b : Side) (p : declared-place.Place) → p.count < t.place.count → sideways s table t.slots b p ≡ sideways s table r.slots b p
  sideways_kept b p h =
      sym (sideways_is s table r.slots b p (get_or t.slots p.count 0) (steps_of s t.slots (place_of p) p.count) (slot_kept w g p.count h)
      (steps_agree s r.slots t.slots (place_of p) (place_of p) p.count (λ j l. slot_kept w g j (omega arith)) (λ j l. refl))
      ∙ sym (sideways_is s table t.slots b p (get_or t.slots p.count 0) (steps_of s t.slots (place_of p) p.count) refl refl))

  fork_kept : (b : Side) (f : option.Option declared-place.Place) → ForkIn t.place.count f → fork_says s table t.slots b f ≡ fork_says s table r.slots b f
  fork_kept b (Some p) h = sideways_kept b p h.1
  fork_kept b None h = refl

  fork_deeper : (f : option.Option declared-place.Place) → ForkIn t.place.count f → ForkIn r.place.count f
  fork_deeper (Some p) h = let n : r.place.count ≡ t.place.count + 1 = g.place.count in (h.0, omega (arith, h.1))
  fork_deeper None h = tt

  -- the node passed is a fork
  fork_here : (b : Side) (steps : List Step) → steps ≡ steps_by s t →
      sought (raised_by (step_at s i b ∷ steps) (descend (not b) ((pass turn).kids b))) ≡ fork_says s table r.slots b (Some t.place)
  unfolding steps_by
  fork_here b steps e =
      sym (sideways_is s table r.slots b t.place i steps (slot_set w g)
      (steps_agree s r.slots t.slots (place_of t.place) (place_of t.place) t.place.count (slot_kept w g) (λ j l. refl) ∙ sym e))

  found_next : (b : Side) (f h : option.Option declared-place.Place) (passes : List Pass) → ForkIn t.place.count f → from_trail b passes ≡ fork_says s table t.slots b f →
      map step_up passes ≡ steps_by s t → h ≡ fork_after s i t.place turn b f → from_trail b (pass turn ∷ passes) ≡ fork_says s table r.slots b h
  unfolding turns_away fork_after step_at
  found_next b f h passes k e u q =
      let p = place_of t.place in
      let d : turns_away b (pass turn) ≡ beq turn (not b) && not (eqb (kid_in i s b).version 0) =
      ap (λ x. beq turn (not b) && not x) (gap_test (255 - length p) (by_table table (store_of s)) (longer b p) (kid_in i s b))
      in
      let x = sought (raised_by (step_at s i b ∷ map step_up passes) (descend (not b) ((pass turn).kids b))) in
      ap (λ c. cond c x (from_trail b passes)) d
      ∙ either_fork s table r.slots b (Some t.place) f (beq turn (not b) && not (eqb (kid_in i s b).version 0))
      (fork_here b (map step_up passes) u) (e ∙ fork_kept b f k)
      ∙ ap (fork_says s table r.slots b) (sym q)

  fork_next : (b : Side) (f h : option.Option declared-place.Place) → ForkIn t.place.count f → h ≡ fork_after s i t.place turn b f → ForkIn r.place.count h
  unfolding fork_after
  fork_next b f h k q =
      let n : r.place.count ≡ t.place.count + 1 = g.place.count in
      subst (ForkIn r.place.count) (sym q)
      (either_in r.place.count (Some t.place) f (beq turn (not b) && not (eqb (kid_in i s b).version 0))
      (w.proper, omega arith) (fork_deeper f k))

-- one turn of the walk
pub walking_next : {s : Bytes} {table : List ℕ} {v : ℕ} {k : Bytes} {t : declared.Trail} {l r : option.Option declared-place.Place} {turn : Side} (i : ℕ) (u : declared.Trail) (m n : option.Option declared-place.Place) →
    Walking s table v k t l r → t.seen ≡ Inner i → turn ≡ bit t.place.count k → m ≡ fork_after s i t.place turn false l → n ≡ fork_after s i t.place turn true r →
    Further s table t i turn u → Walking s table v k u m n
unfolding shown_by fork_at
walking_next {s} {table} {v} {k} {t} {l} {r} {turn} i u m n w e b em en g = record {
  trail = g.trail;
  fork = λ c. fork_of c;
  passes = pass a g turn ∷ w.passes;
  walked = walked_on;
  steps = ap₂ ◌∷◌ (step_up_lem a g) w.steps ∙ sym (steps_further a g);
  found = λ c. found_of_lem c;
}
  where
    a : AtInner s t i
    a = at_inner w.trail e

    fork_of : (c : Side) → ForkIn u.place.count (fork_on c m n)
    fork_of false = fork_next a g false l m (w.fork false) em
    fork_of true = fork_next a g true r n (w.fork true) en

    found_of_lem : (c : Side) → from_trail c (pass a g turn ∷ w.passes) ≡ fork_says s table u.slots c (fork_on c m n)
    found_of_lem false = found_next a g false l m w.passes (w.fork false) (w.found false) w.steps em
    found_of_lem true = found_next a g true r n w.passes (w.fork true) (w.found true) w.steps en

    count : suc t.place.count ≡ u.place.count
    count = sym (g.place.count ∙ add-one t.place.count)

    walked_on : walk k 0 [] (seen (by_table table (store_of s)) v) ≡ walk k u.place.count (pass a g turn ∷ w.passes) (shown_by s table u)
    walked_on =
        w.walked
        ∙ ap (λ x. walk k t.place.count w.passes (shown_at s table (place_of t.place) x)) e
        ∙ ap (λ c. walk k (suc t.place.count) (pass a g c ∷ w.passes) ((pass a g c).kids c)) (sym b)
        ∙ ap (λ (c : ℕ). walk k c (pass a g turn ∷ w.passes) ((pass a g turn).kids turn)) count
        ∙ ap (walk k u.place.count (pass a g turn ∷ w.passes)) (sym (shown_further a g))

-- a walk that has ended
inner_not : (x : declared-seen.Seen) → OneOf (0 ∷ 1 ∷ 2 ∷ []) (tag_of Seen.the_type x) → (i : ℕ) → x ≡ Inner i → ⊥
inner_not x k i e = go (subst (λ y. OneOf (0 ∷ 1 ∷ 2 ∷ []) (tag_of Seen.the_type y)) e k)
  where
    go : OneOf (0 ∷ 1 ∷ 2 ∷ []) (tag_of Seen.the_type (Inner i)) → ⊥
    go k = ⊎_elim (λ e. omega arith) (λ k. ⊎_elim (λ e. omega arith) (λ e. omega arith) k) k

pub walk_ended : {s : Bytes} {table : List ℕ} {v : ℕ} {k : Bytes} (t : declared.Trail) (l r : option.Option declared-place.Place) → Walking s table v k t l r → OneOf (0 ∷ 1 ∷ 2 ∷ []) (tag_of Seen.the_type t.seen) →
    Walks s table v k (record { trail = t; left = l; right = r })
walk_ended t l r w k = record { walking = w; ended = inner_not t.seen k }
