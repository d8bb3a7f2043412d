-- `shelf_verify::is_proof` meets its contract: one form or the other. Assumes nothing.
use mathlib.Core.Path.{sym, ◌∙◌}
use Rattle.shelf_verify.proofs.Laws.{is_presence_proof, is_absence_proof}
use Rattle.shelf_verify.proofs.is_proof.Goals as goal

pub returns-then-is_presence : goal.returns-then-is_presence
returns-then-is_presence c = is_presence_proof c.args.x.now (sym c.is_presence.ensures ∙ c.if-is_presence.true)

pub returns : goal.returns
returns c = c.is_absence.ensures ∙ is_absence_proof c.args.x.now (sym c.is_presence.ensures ∙ c.if-is_presence.false)
