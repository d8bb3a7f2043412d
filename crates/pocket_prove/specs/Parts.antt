-- What the helpers of the pocket writer promise each other. No public promise reaches this file. Assumes nothing.
use Rattle.std.specs.Prelude.{Bool, true, false, not, ◌&&◌, leb, ltb}
use Rattle.meaning.specs.Calls.{Answer, refused, accepted}
use Rattle.prove_paths.specs.declared.Path as declared-path
use Rattle.prove_paths.specs.declared.Way as declared-way
use Rattle.prove_paths.specs.declared.Way.TheVariants.{Stopped, Nobody, Somebody}
use Rattle.prove_paths.specs.declared.Sought as declared-sought
use Rattle.pocket.specs.Pocket.{pocket_steps}
use Rattle.prove_shape.specs.declared.Shape as declared-shape
use Rattle.prove_shape.specs.declared.Shape.TheVariants.{Presence, Absence}
use Rattle.prove_shape.specs.declared.Plan as declared
use Rattle.prove_shape.specs.Plans.{shape_answer}

-- The neighbour that a search found, if any, has at most 32 steps.
abbrev pub way_short : declared-way.Way → declared-path.Path → Bool
way_short (Stopped t) p = true
way_short Nobody p = true
way_short Somebody p = leb p.place.count pocket_steps

-- One of two has more.
abbrev pub one_long : declared-sought.Sought → declared-sought.Sought → Bool
one_long a b = not (way_short a.way a.path && way_short b.way b.path)

-- A leaf that is shown has more.
abbrev pub shape_outside : Answer declared-shape.Shape → declared-sought.Sought → declared-sought.Sought → Bool
shape_outside (refused n) a b = false
shape_outside (accepted Presence) a b = ltb pocket_steps a.path.place.count
shape_outside (accepted Absence) a b = one_long a b

unfoldable pub plan_outside : declared.Plan → Bool
plan_outside p = shape_outside (shape_answer p.shape) p.first p.second
