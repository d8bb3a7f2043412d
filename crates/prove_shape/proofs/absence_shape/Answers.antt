-- `prove_shape::absence_shape` meets its contract: the left search decides, then the right one. Assumes nothing.
use mathlib.Core.Path.{ap, sym, ◌∙◌}
use Rattle.meaning.specs.Calls.{refused}
use Rattle.prove_shape.specs.Shapes.{absence_shape}
use Rattle.prove_shape.proofs.absence_shape.Goals as goal

pub returns-in-Stopped : goal.returns-in-Stopped
returns-in-Stopped c =
    let a = c.args in
    ap refused c.refusal.ensures ∙ sym (ap (λ v. absence_shape v a.right) c.in-Stopped.is)

pub returns-in-Nobody : goal.returns-in-Nobody
returns-in-Nobody c = let a = c.args in c.right_shape.ensures ∙ sym (ap (λ v. absence_shape v a.right) c.in-Nobody.is)

pub returns-in-Somebody : goal.returns-in-Somebody
returns-in-Somebody c = let a = c.args in c.right_shape-in-Somebody.ensures ∙ sym (ap (λ v. absence_shape v a.right) c.in-Somebody.is)
