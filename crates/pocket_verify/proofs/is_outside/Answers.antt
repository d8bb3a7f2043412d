-- `pocket_verify::is_outside` meets its contract: by the form of the proof. Assumes nothing.
use mathlib.Core.Path.{ap, sym, ◌∙◌}
use mathlib.Core.Bool.{not}
use Rattle.pocket_verify.proofs.Checks.{presence_outside, absence_outside, off_form_inside}
use Rattle.pocket_verify.proofs.is_outside.Goals as goal

pub short_path-requires : goal.short_path-requires
short_path-requires c = sym c.is_presence.ensures ∙ c.if-is_presence.true

pub returns-then-is_presence : goal.returns-then-is_presence
returns-then-is_presence c = ap not c.short_path.ensures ∙ presence_outside c.args.p.now (sym c.is_presence.ensures ∙ c.if-is_presence.true)

pub short_neighbours-requires : goal.short_neighbours-requires
short_neighbours-requires c = sym c.is_absence.ensures ∙ c.if-is_absence.true

pub returns-then-is_absence : goal.returns-then-is_absence
returns-then-is_absence c =
    ap not c.short_neighbours.ensures
    ∙ absence_outside c.args.p.now (sym c.is_presence.ensures ∙ c.if-is_presence.false) (sym c.is_absence.ensures ∙ c.if-is_absence.true)

pub returns : goal.returns
returns c = off_form_inside c.args.p.now (sym c.is_presence.ensures ∙ c.if-is_presence.false) (sym c.is_absence.ensures ∙ c.if-is_absence.false)
