-- A plan says whether its proof is inside the profile: as many steps as the place of a leaf has bits. Assumes nothing.
use Prim.Native.Nat.{ℕ}
use mathlib.Core.Path.{◌≡◌, refl, ap, ap₂, sym, ◌∙◌}
use mathlib.Core.Bool.{Bool, true, false, cond, ◌&&◌, not, false≢true}
use lib.ListN.{length}
use lib.Dec.{leb, ltb}
use borrow.Author.Tests.{not-true, not-false, ltb-true, ltb-false, lt-leb, le-leb}
use Rattle.terms.specs.Bits.{Bytes}
use Rattle.meaning.specs.Calls.{Answer, refused, accepted}
use Rattle.place.specs.Place.{place_of}
use Rattle.prove_paths.specs.Paths.{path_steps, presence_at}
use Rattle.prove_paths.specs.Neighbours.{way_at, found, neighbour_at}
use Rattle.prove_paths.specs.declared.Path as declared-path
use Rattle.prove_paths.specs.declared.Way as declared-way
use Rattle.prove_paths.specs.declared.Way.TheVariants.{Stopped, Nobody, Somebody}
use Rattle.prove_paths.specs.declared.Sought as declared-sought
use Rattle.prove_paths.proofs.Records.{steps_count}
use Rattle.pocket.specs.Pocket.{short_path, short_neighbour, in_profile}
use Rattle.prove_shape.specs.Plans.{shape_answer, shape_says, plan_says}
use Rattle.prove_shape.specs.declared.Shape as declared-shape
use Rattle.prove_shape.specs.declared.Shape.TheVariants.{Presence, Absence}
use Rattle.prove_shape.specs.declared.Plan as declared
use Rattle.pocket_prove.specs.Parts.{way_short, one_long, shape_outside, plan_outside}

path_short : (s : Bytes) (p : declared-path.Path) → short_path (presence_at s p) ≡ leb p.place.count 32
unfolding short_path presence_at path_steps
path_short s p = ap (λ (n : ℕ). leb n 32) (steps_count s p.slots (place_of p.place) p.place.count)

way_short_lem : (s : Bytes) (v : declared-way.Way) (p : declared-path.Path) → short_neighbour (found (way_at s v p)) ≡ way_short v p
way_short_lem s (Stopped t) p = refl
way_short_lem s Nobody p = refl
way_short_lem s Somebody p = path_short s p

both_short : (s : Bytes) (a b : declared-sought.Sought) →
    short_neighbour (neighbour_at s a) && short_neighbour (neighbour_at s b) ≡ way_short a.way a.path && way_short b.way b.path
unfolding neighbour_at
both_short s a b = ap₂ ◌&&◌ (way_short_lem s a.way a.path) (way_short_lem s b.way b.path)

-- two neighbours, one after the other
module _ (a b : declared-sought.Sought) where
  pub long_left : way_short a.way a.path ≡ false → true ≡ one_long a b
  long_left e = sym (ap (λ x. not (x && way_short b.way b.path)) e)

  pub right_says : {r : Bool} → way_short a.way a.path ≡ true → r ≡ way_short b.way b.path → not r ≡ one_long a b
  right_says e f = ap not f ∙ sym (ap (λ x. not (x && way_short b.way b.path)) e)

module _ (s k : Bytes) where
  outside_shape : (h : Answer declared-shape.Shape) (a b : declared-sought.Sought) → shape_outside h a b ≡ true → in_profile (shape_says s k h a b) ≡ refused 19
  outside_shape (refused n) a b e = absurd (false≢true e)
  outside_shape (accepted Presence) a b e = rw (path_short s a.path ∙ lt-leb a.path.place.count 32 (ltb-true 32 a.path.place.count e)) refl
  outside_shape (accepted Absence) a b e = rw (both_short s a b ∙ not-true _ e) refl

  inside_shape : (h : Answer declared-shape.Shape) (a b : declared-sought.Sought) → shape_outside h a b ≡ false → in_profile (shape_says s k h a b) ≡ shape_says s k h a b
  inside_shape (refused n) a b e = refl
  inside_shape (accepted Presence) a b e = rw (path_short s a.path ∙ le-leb a.path.place.count 32 (ltb-false 32 a.path.place.count e)) refl
  inside_shape (accepted Absence) a b e = rw (both_short s a b ∙ not-false _ e) refl

  module _ (x : declared.Plan) where
    pub outside_plan : plan_outside x ≡ true → in_profile (plan_says s k x) ≡ refused 19
    unfolding plan_outside plan_says
    outside_plan e = outside_shape (shape_answer x.shape) x.first x.second e

    pub inside_plan : plan_outside x ≡ false → in_profile (plan_says s k x) ≡ plan_says s k x
    unfolding plan_outside plan_says
    inside_plan e = inside_shape (shape_answer x.shape) x.first x.second e
