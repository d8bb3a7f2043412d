-- `verify_form::sides_right` meets its contract: all sides are right exactly if those from step i on are.
-- Assumes nothing.
use native.Mathlib.Omega.{arith}
use native.Mathlib.Nat.{sub-zero}
use mathlib.Core.Path.{sym, ◌∙◌}
use Rattle.verify_form.proofs.Sides.{sides_off, sides_on, no_sides_left}
use Rattle.verify_form.proofs.sides_right.Goals as goal

pub loop-i-init : goal.loop-i-init
loop-i-init c = rw sub-zero

pub returns-then-p-i-gt1 : goal.returns-then-p-i-gt1
returns-then-p-i-gt1 c =
    let a = c.args in
    sym (c.loop-i.invariant ∙ sides_off c.loop-i.i a.n a.p.now (omega arith) c.if-p-i-gt1.true)

pub loop-i-preserved : goal.loop-i-preserved
loop-i-preserved c =
    let a = c.args in
    c.loop-i.invariant ∙ sides_on c.loop-i.i a.n a.p.now (omega arith) c.if-p-i-gt1.false

pub returns : goal.returns
returns c =
    let a = c.args in
    sym (c.loop-i.invariant ∙ no_sides_left c.loop-i.i a.n a.p.now (omega arith))
