-- `verify_path::outermost` meets its contract: all steps keep to the side exactly if those from step i on do.
-- Assumes nothing.
use native.Mathlib.Omega.{arith}
use native.Mathlib.Nat.{sub-zero}
use mathlib.Core.Path.{ap, sym, ◌∙◌}
use Rattle.meaning.specs.Checking.{outermost}
use Rattle.verify_path.proofs.Steps.{outermost_off, outermost_on, no_steps_left}
use Rattle.verify_path.proofs.outermost.Goals as goal

pub loop-i-init : goal.loop-i-init
loop-i-init c = rw sub-zero

pub returns-then-not-keeps_to : goal.returns-then-not-keeps_to
returns-then-not-keeps_to c =
    let a = c.args in
    sym (c.loop-i.invariant ∙ outermost_off a.side c.loop-i.i a.n a.p.now (omega arith) (sym c.keeps_to.ensures ∙ c.if-not-keeps_to.true))

pub loop-i-preserved : goal.loop-i-preserved
loop-i-preserved c =
    let a = c.args in
    c.loop-i.invariant ∙ outermost_on a.side c.loop-i.i a.n a.p.now (omega arith) (sym c.keeps_to.ensures ∙ c.if-not-keeps_to.false)

pub returns : goal.returns
returns c =
    let a = c.args in
    sym (c.loop-i.invariant ∙ ap (outermost a.side) (no_steps_left c.loop-i.i a.n a.p.now (omega arith)))
