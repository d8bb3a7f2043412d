-- The search for a neighbour by its trail: each turn of a descent goes where the definition's does, and a fork's child is where its descent
-- starts. Assumes nothing.
use Prim.Native.Nat.{ℕ, ◌+◌, ◌-◌, ◌≤◌}
use native.Mathlib.Omega.{arith}
use mathlib.Core.Path.{◌≡◌, refl, ap, ap₂, sym, ◌∙◌, subst}
use mathlib.Core.Bool.{Bool, true, false, cond, not}
use mathlib.Core.List.{List, [], ◌∷◌}
use lib.ListN.{length, get_or}
use mathlib.Core.Logic.{⊎_elim}
use types.Run.{OneOf}
use denote.Enum.Declared.{tag_of}
use lib.Dec.{eqb}
use Rattle.terms.specs.declared.Form.TheVariants.{Counted as counted}
use Rattle.std.specs.Prelude.{Some, None}
use Rattle.std.specs.declared.option.Option as option
use Rattle.terms.specs.Bits.{Bytes, Side, longer}
use Rattle.terms.specs.Records.{Step}
use Rattle.meaning.specs.Reading as reading
use Rattle.meaning.specs.Proving.{step, is_gap, descent_stopped, raised_by, descend, Sought, search_stopped, nobody, somebody, sought, beyond}
use Rattle.shown.proofs.Loops.{descend_below, descend_below_lem}
use Rattle.indexed.specs.Index.{by_table}
use Rattle.place.specs.Place.{place_of}
use Rattle.layout.specs.Slots.{key_in}
use Rattle.layout.specs.Stores.{slot_in, store_of, SlotWithin}
use Rattle.read_step.specs.Walk.{trouble_says, kid_in, leaf_at, fork_at}
use Rattle.read_step.specs.declared.Trouble as declared-trouble
use Rattle.read_step.specs.declared.Seen as declared-seen
use Rattle.read_step.specs.declared.Seen.TheVariants.{Gap, Stopped, Leaf, Inner}
use Rattle.read_step.specs.contracts.Seen as Seen
use Rattle.store.proofs.Slots.{slot_fits}
use Rattle.prove_paths.specs.Paths.{step_at, path_steps, presence_at, PathIn}
use Rattle.prove_paths.specs.declared.Way.TheVariants as way
use Rattle.prove_paths.specs.declared.Sought as declared-sought
use Rattle.place.specs.declared.Place as declared-place
use Rattle.prove_trails.specs.Trails.{shown_at, SeenIn, shown_by, steps_by, TrailIn, AtInner, Further, sideways, fork_says, ForkIn, fork_on}
use Rattle.prove_trails.specs.Searches.{path_of, sought_of, Finds, descent_says, WalkedIn, end_says, neighbour_says}
use Rattle.prove_trails.specs.declared.Trail as declared
use Rattle.prove_trails.specs.declared.Walked as declared-walked
use Rattle.prove_trails.proofs.Trails.{kids_at, gap_test, steps_further, shown_further, at_inner}

-- the path of a trail that ends at a leaf lies within the store
pub path_in_lem : (s : Bytes) (t : declared.Trail) (i : ℕ) → TrailIn s t → t.seen ≡ Leaf i → PathIn s (path_of t i)
path_in_lem s t i w e = record {
  proper = w.proper;
  above = λ j h. slot_fits counted s w.size (get_or t.slots j 0) (w.above j h);
  end = slot_fits counted s w.size i (subst (SeenIn s (place_of t.place)) e w.seen);
}

-- the turn of a descent
turned : (g b : Side) (hashes : Side → Bytes) (kids : Side → reading.Seen) (steps : List Step) →
    cond g (descend_below b (step (not b) (hashes b) ∷ steps) (kids (not b))) (descend_below b (step b (hashes (not b)) ∷ steps) (kids b))
    ≡ descend_below b (step (cond g (not b) b) (hashes (not (cond g (not b) b))) ∷ steps) (kids (cond g (not b) b))
turned true true hashes kids steps = refl
turned true false hashes kids steps = refl
turned false true hashes kids steps = refl
turned false false hashes kids steps = refl

-- a descent from trail t₀ to side b has come to the end of t
pub record Descent (s : Bytes) (table : List ℕ) (b : Side) (t₀ t : declared.Trail) : Type 0 where
  pub trail : TrailIn s t
  pub same : descent_says s table t₀ b ≡ descent_says s table t b

pub descent_start : (s : Bytes) (table : List ℕ) (b : Side) (t : declared.Trail) → TrailIn s t → Descent s table b t t
descent_start s table b t w = record { trail = w; same = refl }

module _ {s : Bytes} {table : List ℕ} {b : Side} {t₀ t : declared.Trail} (w : Descent s table b t₀ t) where
  pub descent_next : {side : Side} (i : ℕ) (r : declared.Trail) → t.seen ≡ Inner i → side ≡ cond (eqb (kid_in i s b).version 0) (not b) b → Further s table t i side r →
      Descent s table b t₀ r
  unfolding descent_says shown_by fork_at step_at
  descent_next {side} i r e q f = record { trail = f.trail; same = w.same ∙ ap sought turn }
    where
      a : AtInner s t i
      a = at_inner w.trail e

      gaps : is_gap (kids_at s table t i b) ≡ eqb (kid_in i s b).version 0
      gaps = gap_test (255 - length (place_of t.place)) (by_table table (store_of s)) (longer b (place_of t.place)) (kid_in i s b)

      turn : raised_by (steps_by s t) (descend b (shown_by s table t)) ≡ raised_by (steps_by s r) (descend b (shown_by s table r))
      turn =
          sym (descend_below_lem b (steps_by s t) (shown_by s table t))
          ∙ ap (λ x. descend_below b (steps_by s t) (shown_at s table (place_of t.place) x)) e
          ∙ turned (is_gap (kids_at s table t i b)) b (λ c. (kid_in i s c).hash) (kids_at s table t i) (steps_by s t)
          ∙ ap (λ c. descend_below b (step_at s i c ∷ steps_by s t) (kids_at s table t i c)) (ap (λ g. cond g (not b) b) gaps ∙ sym q)
          ∙ ap₂ (descend_below b) (sym (steps_further a f)) (sym (shown_further a f))
          ∙ descend_below_lem b (steps_by s r) (shown_by s table r)

  pub descent_leaf : {r : declared-sought.Sought} (i : ℕ) → t.seen ≡ Leaf i → r ≡ sought_of t way.Somebody i → Finds s (descent_says s table t₀ b) r
  unfolding descent_says shown_by leaf_at presence_at path_steps steps_by
  descent_leaf {r} i e q = subst (Finds s (descent_says s table t₀ b)) (sym q) (record { says = says; within = path_in_lem s t i w.trail e })
    where
      says : somebody (presence_at s (path_of t i)) ≡ descent_says s table t₀ b
      says = sym (w.same ∙ ap (λ x. sought (raised_by (steps_by s t) (descend b (shown_at s table (place_of t.place) x)))) e)

  pub descent_stopped_lem : {r : declared-sought.Sought} (x : declared-seen.Seen) (u : declared-trouble.Trouble) → t.seen ≡ x →
      descend b (shown_at s table (place_of t.place) x) ≡ descent_stopped (trouble_says u) → r ≡ sought_of t (way.Stopped u) 0 → Finds s (descent_says s table t₀ b) r
  unfolding descent_says shown_by
  descent_stopped_lem {r} x u e n q = subst (Finds s (descent_says s table t₀ b)) (sym q) (record { says = says; within = w.trail.proper.short })
    where
      says : search_stopped (trouble_says u) ≡ descent_says s table t₀ b
      says = sym (w.same ∙ ap (λ y. sought (raised_by (steps_by s t) (descend b (shown_at s table (place_of t.place) y)))) e ∙ ap (λ o. sought (raised_by (steps_by s t) o)) n)

-- a search from a fork: nobody where there is none, else into its child
pub fork_nobody : {r : declared-sought.Sought} (s : Bytes) (table : List ℕ) (b : Side) (t : declared.Trail) (f : option.Option declared-place.Place) → TrailIn s t → f ≡ None →
    r ≡ sought_of t way.Nobody 0 → Finds s (fork_says s table t.slots b f) r
fork_nobody s table b t f w e q =
    subst (Finds s (fork_says s table t.slots b f)) (sym q) (record { says = ap (fork_says s table t.slots b) (sym e); within = w.proper.short })

-- the trail back at a fork
abbrev pub back_at : declared.Trail → declared-place.Place → declared.Trail
back_at t p = record { seen = Inner (get_or t.slots p.count 0); slots = t.slots; place = p }

module _ {s : Bytes} {t : declared.Trail} {f : option.Option declared-place.Place} {p : declared-place.Place} (w : TrailIn s t) (h : ForkIn t.place.count f) (e : f ≡ Some p) where
  pub fork_at_lem : AtInner s (back_at t p) (get_or t.slots p.count 0)
  fork_at_lem =
      let g = subst (ForkIn t.place.count) e h in
      let l = g.1 in
      record {
        size = w.size;
        proper = g.0;
        long = w.long;
        above = λ j k. w.above j (omega arith);
        inside = w.above p.count l;
        short = omega (arith, w.proper.short);
      }

  pub fork_found : {table : List ℕ} {r : declared-sought.Sought} (b : Side) (n : declared.Trail) → Further s table (back_at t p) (get_or t.slots p.count 0) b n →
      Finds s (descent_says s table n (not b)) r → Finds s (fork_says s table t.slots b f) r
  unfolding sideways descent_says steps_by
  fork_found {table} {r} b n g d = subst (λ x. Finds s x r) same d
    where
      open_fork : fork_says s table t.slots b f ≡ sideways s table t.slots b p
      open_fork = ap (fork_says s table t.slots b) e

      same : descent_says s table n (not b) ≡ fork_says s table t.slots b f
      same = ap₂ (λ steps x. sought (raised_by steps (descend (not b) x))) (steps_further fork_at_lem g) (shown_further fork_at_lem g) ∙ sym open_fork

-- the neighbour where a walk has ended
pub fork_within : {f : option.Option declared-place.Place} (s : Bytes) (w : declared-walked.Walked) (b : Side) → WalkedIn s w → f ≡ fork_on b w.left w.right →
    TrailIn s w.trail × ForkIn w.trail.place.count f
fork_within s w b h e = (h.trail, subst (ForkIn w.trail.place.count) (sym e) (h.fork b))

not_leaf : (s k : Bytes) (t : declared.Trail) (b : Side) (x : declared-seen.Seen) (y : Sought) → OneOf (0 ∷ 1 ∷ 3 ∷ []) (tag_of Seen.the_type x) → end_says s k t b x y ≡ y
not_leaf s k t b Gap y o = refl
not_leaf s k t b (Stopped u) y o = refl
not_leaf s k t b (Leaf i) y o = absurd (⊎_elim (λ e. omega arith) (λ m. ⊎_elim (λ e. omega arith) (λ e. omega arith) m) o)
not_leaf s k t b (Inner i) y o = refl

module _ (s : Bytes) (table : List ℕ) (k : Bytes) (w : declared-walked.Walked) (b : Side) where
  abbrev from_fork : Sought
  from_fork = fork_says s table w.trail.slots b (fork_on b w.left w.right)

  pub end_elsewhere : {f : option.Option declared-place.Place} {r : declared-sought.Sought} → OneOf (0 ∷ 1 ∷ 3 ∷ []) (tag_of Seen.the_type w.trail.seen) → f ≡ fork_on b w.left w.right →
      Finds s (fork_says s table w.trail.slots b f) r → Finds s (neighbour_says s table k w b) r
  unfolding neighbour_says
  end_elsewhere {f} {r} o e d =
      subst (λ x. Finds s x r) (ap (fork_says s table w.trail.slots b) e ∙ sym (not_leaf s k w.trail b w.trail.seen from_fork o)) d

  module _ {x y : Bytes} {d : Bool} (i : ℕ) (here : w.trail.seen ≡ Leaf i) (ex : x ≡ slot_in counted i s) (ey : y ≡ key_in x) (ed : d ≡ beyond b y k) where
    leaf_says : neighbour_says s table k w b ≡ cond d (somebody (presence_at s (path_of w.trail i))) from_fork
    unfolding neighbour_says
    leaf_says =
        ap (λ z. end_says s k w.trail b z from_fork) here
        ∙ ap (λ c. cond c (somebody (presence_at s (path_of w.trail i))) from_fork) (sym (ed ∙ ap (λ z. beyond b z k) (ey ∙ ap key_in ex)))

    pub end_beyond : {r : declared-sought.Sought} → d ≡ true → TrailIn s w.trail → r ≡ sought_of w.trail way.Somebody i → Finds s (neighbour_says s table k w b) r
    end_beyond t h q =
        subst (Finds s (neighbour_says s table k w b)) (sym q)
        (record {
          says = sym (leaf_says ∙ ap (λ c. cond c (somebody (presence_at s (path_of w.trail i))) from_fork) t);
          within = path_in_lem s w.trail i h here;
        })

    pub end_before : {f : option.Option declared-place.Place} {r : declared-sought.Sought} → d ≡ false → f ≡ fork_on b w.left w.right → Finds s (fork_says s table w.trail.slots b f) r →
        Finds s (neighbour_says s table k w b) r
    end_before {f} {r} t e n =
        subst (λ z. Finds s z r)
        (ap (fork_says s table w.trail.slots b) e ∙ sym (leaf_says ∙ ap (λ c. cond c (somebody (presence_at s (path_of w.trail i))) from_fork) t)) n

-- the leaf's slot is one of the store's
pub leaf_fits_lem : (s : Bytes) (t : declared.Trail) (i : ℕ) → TrailIn s t → t.seen ≡ Leaf i → SlotWithin counted i s
leaf_fits_lem s t i w e = (path_in_lem s t i w e).end
