-- `pocket_prove::is_outside` meets its contract, by the shape of the plan. Assumes nothing.
use mathlib.Core.Path.{ap, sym, ◌∙◌}
use Rattle.std.specs.Prelude.{Ok}
use Rattle.prove_shape.specs.Plans.{shape_answer}
use Rattle.pocket_prove.specs.Parts.{shape_outside, plan_outside}
use Rattle.pocket_prove.proofs.is_outside.Goals as goal

pub returns-in-Err : goal.returns-in-Err
unfolding plan_outside
returns-in-Err c = let p = c.args.plan in sym (ap (λ h. shape_outside (shape_answer h) p.first p.second) c.in-Err.is)

pub returns-in-Ok-Presence : goal.returns-in-Ok-Presence
unfolding plan_outside
returns-in-Ok-Presence c =
    let p = c.args.plan in
    sym (ap (λ h. shape_outside (shape_answer h) p.first p.second) (c.in-Ok-Presence.is ∙ ap Ok (rw c.in-Ok-Presence.is at c.in-Ok-Presence.field-0-is)))

pub returns-in-Ok-Absence : goal.returns-in-Ok-Absence
unfolding plan_outside
returns-in-Ok-Absence c =
    let p = c.args.plan in
    c.one_is_long.ensures ∙ sym (ap (λ h. shape_outside (shape_answer h) p.first p.second) (c.in-Ok-Absence.is ∙ ap Ok (rw c.in-Ok-Absence.is at c.in-Ok-Absence.field-0-is)))
