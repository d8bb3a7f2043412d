-- What the helpers of planning promise each other. No public promise reaches this file. Assumes nothing.
use Rattle.std.specs.Prelude.{ℕ, cond, List, Result}
use Rattle.terms.specs.declared.Form.TheVariants.{Counted as counted}
use Rattle.terms.specs.Bits.{Bytes, same_bytes}
use Rattle.terms.specs.Records.{Proof, presence}
use Rattle.meaning.specs.Calls.{Answer, accepted}
use Rattle.layout.specs.Slots.{key_in}
use Rattle.layout.specs.Stores.{slot_in}
use Rattle.prove_paths.specs.Paths.{presence_at}
use Rattle.prove_paths.specs.declared.Way.TheVariants.{Somebody}
use Rattle.prove_trails.specs.Searches.{path_of, sought_of}
use Rattle.prove_trails.specs.declared.Walked as declared-walked
use Rattle.prove_shape.specs.declared.Shape as declared-shape
use Rattle.prove_shape.specs.declared.Plan as declared
use Rattle.prove_neighbours.specs.Absence.{absent_from}
use Rattle.refusal_numbers.specs.declared.ReadRefusal.{ReadRefusal}

-- The plan that shows the end of a walk alone.
abbrev pub ended : declared-walked.Walked → Result declared-shape.Shape ReadRefusal → ℕ → ℕ → declared.Plan
ended w shape i len = record {
  shape = shape;
  first = sought_of w.trail Somebody i;
  second = sought_of w.trail Somebody i;
  length = len;
}

-- Where a walk has ended at the leaf in slot i: the presence of that leaf, by its path.
abbrev pub present_at : Bytes → declared-walked.Walked → ℕ → Answer Proof
present_at s w i = accepted (presence (presence_at s (path_of w.trail i)))

-- What is proved there: its presence if the key is its own, else absence.
abbrev pub proved_at : Bytes → List ℕ → Bytes → declared-walked.Walked → ℕ → Answer Proof
proved_at s table k w i =
    cond (same_bytes k (key_in (slot_in counted i s))) (present_at s w i) (absent_from s table k w)
