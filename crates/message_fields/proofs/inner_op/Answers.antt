-- `message_fields::inner_op` meets its contract, by the length and the head. Assumes nothing.
use mathlib.Core.Path.{sym, ◌∙◌}
use Rattle.message_fields.proofs.Inners.{inner_left, inner_no_left, inner_right_lem, inner_no_right, inner_neither}
use Rattle.message_fields.proofs.inner_op.Goals as goal

pub returns-then-same : goal.returns-then-same
returns-then-same c = let x = c.args.x.now in inner_left x c.if-x-eq39.true (sym c.same.ensures ∙ c.if-same.true)

pub returns-then-x-eq39 : goal.returns-then-x-eq39
returns-then-x-eq39 c = let x = c.args.x.now in inner_no_left x c.if-x-eq39.true (sym c.same.ensures ∙ c.if-same.false)

pub returns-then-same-2 : goal.returns-then-same-2
returns-then-same-2 c = let x = c.args.x.now in inner_right_lem x c.if-x-eq37.true (sym c.same-then-x-eq37.ensures ∙ c.if-same-2.true)

pub returns-else-same-2 : goal.returns-else-same-2
returns-else-same-2 c = let x = c.args.x.now in inner_no_right x c.if-x-eq37.true (sym c.same-then-x-eq37.ensures ∙ c.if-same-2.false)

pub returns-else-x-eq37 : goal.returns-else-x-eq37
returns-else-x-eq37 c = let x = c.args.x.now in inner_neither x c.if-x-eq39.false c.if-x-eq37.false
