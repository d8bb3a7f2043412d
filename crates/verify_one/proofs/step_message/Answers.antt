-- `verify_one::step_message` meets its contract. By the side, the sibling is the left or the right one. Assumes nothing.
use native.Mathlib.Omega.{arith}
use mathlib.Core.Path.{sym, ◌∙◌}
use Rattle.verify_one.proofs.Laws.{no_step, right_step, left_step}
use Rattle.verify_one.proofs.step_message.Goals as goal

pub returns-then-step_count-i : goal.returns-then-step_count-i
returns-then-step_count-i c = let a = c.args in no_step a.x.now a.i a.h (omega arith)

pub returns-then-is_right : goal.returns-then-is_right
returns-then-is_right c =
    let a = c.args in
    right_step a.x.now a.i a.h _ (sym c.is_right.ensures ∙ c.if-is_right.true) c.sibling-s.ensures

pub returns : goal.returns
returns c =
    let a = c.args in
    left_step a.x.now a.i a.h _ (sym c.is_right.ensures ∙ c.if-is_right.false) c.sibling-s.ensures
