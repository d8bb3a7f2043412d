-- Document 01, 'Forms to follow': what a plan says of the proof that it is for, and when it can be written from lent
-- memory. Assumes nothing.
use Rattle.std.specs.Prelude.{ℕ, ◌+◌, ◌*◌, ◌≡◌, Result}
use Rattle.terms.specs.Bits.{Bytes}
use Rattle.terms.specs.Records.{Proof, presence}
use Rattle.meaning.specs.Calls.{Answer, refused, accepted}
use Rattle.meaning.specs.Proving.{absence_of}
use Rattle.proofrecords.specs.ProofBytes.{presence_head, step_size, absence_head}
use Rattle.prove_paths.specs.Paths.{presence_at, PathIn}
use Rattle.prove_paths.specs.Neighbours.{neighbour_at, NeighbourIn, room_for}
use Rattle.prove_paths.specs.declared.Sought as declared-sought
use Rattle.prove_shape.specs.declared.Shape as declared-shape
use Rattle.prove_shape.specs.declared.Shape.TheVariants.{Presence, Absence}
use Rattle.prove_shape.specs.declared.Plan as declared
use Rattle.refusal_numbers.specs.Refusals.{read_answer_of}
use Rattle.refusal_numbers.specs.declared.ReadRefusal.{ReadRefusal}

-- What the code says of a shape: the refusal, or the shape itself.
abbrev pub shape_answer : Result declared-shape.Shape ReadRefusal → Answer declared-shape.Shape
shape_answer = read_answer_of (λ h. h)

-- The refusal, the presence proof of the leaf shown, or the absence proof of key k with the neighbours shown.
abbrev pub shape_says : Bytes → Bytes → Answer declared-shape.Shape → declared-sought.Sought →
    declared-sought.Sought → Answer Proof
shape_says s k (refused n) a b = refused n
shape_says s k (accepted Presence) a b = accepted (presence (presence_at s a.path))
shape_says s k (accepted Absence) a b = accepted (absence_of k (neighbour_at s a) (neighbour_at s b))

unfoldable pub plan_says : Bytes → Bytes → declared.Plan → Answer Proof
plan_says s k p = shape_says s k (shape_answer p.shape) p.first p.second

-- The paths to the leaves shown lie within the store, and the length is that of the proof.
abbrev pub ShapeIn : Bytes → Answer declared-shape.Shape → declared-sought.Sought → declared-sought.Sought → ℕ → Type 0
ShapeIn s (refused n) a b len = Unit {0}
ShapeIn s (accepted Presence) a b len = PathIn s a.path × (len ≡ presence_head + step_size * a.path.place.count)
ShapeIn s (accepted Absence) a b len =
    (NeighbourIn s a × NeighbourIn s b) × (len ≡ absence_head + room_for a + room_for b)

abbrev pub PlanIn : Bytes → declared.Plan → Type 0
PlanIn s p = ShapeIn s (shape_answer p.shape) p.first p.second p.length

-- A plan for the answer a, of key k, within the store s.
pub record Plans (s k : Bytes) (a : Answer Proof) (p : declared.Plan) : Type 0 where
  pub says : plan_says s k p ≡ a
  pub within : PlanIn s p
