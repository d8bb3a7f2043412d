-- A plan's length is that of the proof that it is for, at most 17,080 bytes; and what is written is that proof. Assumes nothing.
use Prim.Native.Nat.{ℕ, ◌+◌, ◌*◌, ◌≤◌}
use native.Mathlib.Omega.{arith}
use mathlib.Core.Path.{◌≡◌, refl, ap, ap₂, sym, ◌∙◌, subst}
use mathlib.Core.List.{[], ◌∷◌}
use lib.ListN.{length}
use Rattle.terms.specs.Bits.{Bytes}
use Rattle.terms.specs.Records.{Proof, presence}
use Rattle.meaning.specs.Calls.{Answer, refused, accepted}
use Rattle.meaning.specs.Proving.{absence_of, presence_length, neighbour_length, proof_length}
use Rattle.place.specs.Place.{place_of}
use Rattle.prove_paths.specs.Paths.{path_steps, presence_at, PathIn}
use Rattle.prove_paths.specs.Neighbours.{way_at, found, neighbour_at, NeighbourIn, way_room, room_for}
use Rattle.prove_paths.specs.declared.Path as declared-path
use Rattle.prove_paths.specs.declared.Way as declared-way
use Rattle.prove_paths.specs.declared.Way.TheVariants.{Stopped, Nobody, Somebody}
use Rattle.prove_paths.specs.declared.Sought as declared-sought
use Rattle.prove_paths.proofs.Records.{room_most, steps_count}
use Rattle.std.specs.Prelude.{Result, Ok, Err}
use Rattle.refusal_numbers.specs.Refusals.{code}
use Rattle.refusal_numbers.specs.declared.ReadRefusal.{ReadRefusal}
use Rattle.prove_shape.specs.Plans.{shape_answer, shape_says, plan_says, ShapeIn, PlanIn}
use Rattle.prove_shape.specs.declared.Shape as declared-shape
use Rattle.prove_shape.specs.declared.Shape.TheVariants.{Presence, Absence}
use Rattle.prove_shape.specs.declared.Plan as declared
use Rattle.prove_write.specs.Written.{planned_length, planned_bytes}

empty : (x : Bytes) → length x ≡ 0 → x ≡ []
empty [] h = refl
empty (a ∷ x) h = absurd (omega arith)

-- how long the proofs are
presence_length_lem : (s : Bytes) (p : declared-path.Path) → proof_length (presence (presence_at s p)) ≡ 72 + 33 * p.place.count
unfolding presence_length presence_at path_steps
presence_length_lem s p = ap (λ (n : ℕ). 72 + 33 * n) (steps_count s p.slots (place_of p.place) p.place.count)

way_length : (s : Bytes) (v : declared-way.Way) (p : declared-path.Path) → neighbour_length (found (way_at s v p)) ≡ way_room v p
way_length s (Stopped t) p = refl
way_length s Nobody p = refl
way_length s Somebody p = presence_length_lem s p

absence_length : (s k : Bytes) (l r : declared-sought.Sought) → proof_length (absence_of k (neighbour_at s l) (neighbour_at s r)) ≡ 40 + room_for l + room_for r
unfolding neighbour_at room_for
absence_length s k l r = ap₂ (λ (i j : ℕ). 40 + i + j) (way_length s l.way l.path) (way_length s r.way r.path)

shape_length : (s k : Bytes) (h : Answer declared-shape.Shape) (a b : declared-sought.Sought) (len : ℕ) → ShapeIn s h a b len → (p : Proof) → shape_says s k h a b ≡ accepted p →
    (len ≡ proof_length p) × (len ≤ 17080)
shape_length s k (refused n) a b len w p e = let z : ◌≡◌ {A = ℕ} 0 1 = cc in absurd (omega arith)
shape_length s k (accepted Presence) a b len w p e =
    let q : presence (presence_at s a.path) ≡ p = cc in
    (w.1 ∙ sym (presence_length_lem s a.path) ∙ ap proof_length q, omega (arith, w.1, w.0.proper.short))
shape_length s k (accepted Absence) a b len w p e =
    let q : absence_of k (neighbour_at s a) (neighbour_at s b) ≡ p = cc in
    (w.1 ∙ sym (absence_length s k a b) ∙ ap proof_length q, omega (arith, w.1, room_most s a w.0.0, room_most s b w.0.1))

-- a plan that isn't refused: its proof, and that its length is the proof's
pub record Planned (s k : Bytes) (x : declared.Plan) : Type 0 where
  pub proof : Proof
  pub says : plan_says s k x ≡ accepted proof
  pub long : x.length ≡ proof_length proof
  pub few : x.length ≤ 17080

pub planned : (s k : Bytes) (x : declared.Plan) (p : Proof) → PlanIn s x → plan_says s k x ≡ accepted p → Planned s k x
unfolding plan_says
planned s k x p w e = let l = shape_length s k (shape_answer x.shape) x.first x.second x.length w p e in record { proof = p; says = e; long = l.0; few = l.1 }

shape_proof : (s k : Bytes) (h : declared-shape.Shape) (a b : declared-sought.Sought) → (p : Proof) × (shape_says s k (accepted h) a b ≡ accepted p)
shape_proof s k Presence a b = (presence (presence_at s a.path), refl)
shape_proof s k Absence a b = (absence_of k (neighbour_at s a) (neighbour_at s b), refl)

pub not_refused : {h : declared-shape.Shape} (s k : Bytes) (x : declared.Plan) → PlanIn s x → x.shape ≡ Ok h → Planned s k x
unfolding plan_says
not_refused {h} s k x w e =
    let q = shape_proof s k h x.first x.second in
    planned s k x q.0 w (ap (λ y. shape_says s k (shape_answer y) x.first x.second) e ∙ q.1)

pub refusal_planned : {r : ReadRefusal} (s k : Bytes) (x : declared.Plan) → x.shape ≡ Err r → plan_says s k x ≡ refused (code r)
unfolding plan_says
refusal_planned s k x e = ap (λ h. shape_says s k (shape_answer h) x.first x.second) e

-- what is written, by the shape
module _ (s k part : Bytes) (x : declared.Plan) (w : PlanIn s x) (l : length part ≡ planned_length (plan_says s k x)) where
  long : {h : Result declared-shape.Shape ReadRefusal} → x.shape ≡ h → length part ≡ planned_length (shape_says s k (shape_answer h) x.first x.second)
  unfolding plan_says
  long e = l ∙ ap (λ h. planned_length (shape_says s k (shape_answer h) x.first x.second)) e

  within : {h : Result declared-shape.Shape ReadRefusal} → x.shape ≡ h → ShapeIn s (shape_answer h) x.first x.second x.length
  within e = subst (λ h. ShapeIn s (shape_answer h) x.first x.second x.length) e w

  pub presence_ready : x.shape ≡ Ok Presence → PathIn s x.first.path × (length part ≡ 72 + 33 * x.first.path.place.count)
  presence_ready e = ((within e).0, long e ∙ presence_length_lem s x.first.path)

  pub absence_ready : x.shape ≡ Ok Absence → length k ≡ 32 →
      (NeighbourIn s x.first × NeighbourIn s x.second) × (length k ≡ 32) × (length part ≡ 40 + room_for x.first + room_for x.second)
  absence_ready e whole = ((within e).0, whole, long e ∙ absence_length s k x.first x.second)

  pub as_planned : {h : Result declared-shape.Shape ReadRefusal} {y : Bytes} → x.shape ≡ h → y ≡ planned_bytes (shape_says s k (shape_answer h) x.first x.second) → y ≡ planned_bytes (plan_says s k x)
  unfolding plan_says
  as_planned e f = f ∙ ap (λ h. planned_bytes (shape_says s k (shape_answer h) x.first x.second)) (sym e)

  pub nothing_written : {r : ReadRefusal} → x.shape ≡ Err r → part ≡ planned_bytes (plan_says s k x)
  nothing_written e = as_planned e (empty part (long e))
