-- `forged_path::parent_message` meets its contract: by the side, the sibling's hash is the left or the right one. Assumes nothing.
use mathlib.Core.Path.{refl, sym, ◌∙◌}
use Rattle.forged_path.proofs.Upwards.{parent_right, parent_left}
use Rattle.forged_path.proofs.parent_message.Goals as goal

pub returns-then-is_right : goal.returns-then-is_right
returns-then-is_right c = parent_right _ _ _ (sym c.is_right.ensures ∙ c.if-is_right.true) refl c.sibling-s.ensures refl

pub returns : goal.returns
returns c = parent_left _ _ _ (sym c.is_right.ensures ∙ c.if-is_right.false) refl refl c.sibling-s.ensures
