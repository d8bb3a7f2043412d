-- How the searches for both neighbours decide what an absence proof will be. No public promise reaches this file.
-- Assumes nothing.
use Rattle.meaning.specs.Calls.{Answer, refused, accepted}
use Rattle.meaning.specs.Reading.{refusal_of}
use Rattle.read_step.specs.Walk.{trouble_says}
use Rattle.prove_paths.specs.declared.Way as declared-way
use Rattle.prove_paths.specs.declared.Way.TheVariants.{Stopped, Nobody, Somebody}
use Rattle.prove_shape.specs.declared.Shape as declared-shape
use Rattle.prove_shape.specs.declared.Shape.TheVariants.{Absence}

-- The shape by the right search, where the left one was not stopped: `alone` is that without a right neighbour.
abbrev pub right_shape : declared-way.Way → Answer declared-shape.Shape → Answer declared-shape.Shape
right_shape (Stopped t) alone = refused (refusal_of (trouble_says t))
right_shape Nobody alone = alone
right_shape Somebody alone = accepted Absence

-- The shape of an absence proof by how both searches ended, the left one first.
abbrev pub absence_shape : declared-way.Way → declared-way.Way → Answer declared-shape.Shape
absence_shape (Stopped t) r = refused (refusal_of (trouble_says t))
absence_shape Nobody r = right_shape r (refused 14)
absence_shape Somebody r = right_shape r (accepted Absence)
