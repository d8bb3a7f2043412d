-- `prove_shape::right_shape` meets its contract, by how the search ended. Assumes nothing.
use mathlib.Core.Path.{ap, sym, ◌∙◌}
use Rattle.prove_shape.specs.Shapes.{right_shape}
use Rattle.meaning.specs.Calls.{refused}
use Rattle.prove_shape.specs.Plans.{shape_answer}
use Rattle.prove_shape.proofs.right_shape.Goals as goal

pub returns-in-Stopped : goal.returns-in-Stopped
returns-in-Stopped c =
    let a = c.args in
    ap refused c.refusal.ensures ∙ sym (ap (λ v. right_shape v (shape_answer a.alone)) c.in-Stopped.is)
