-- `place::before` meets its contract: at index i both strings agree so far, so what is left of them decides. Assumes nothing.
use mathlib.Core.Path.{sym, ◌∙◌}
use Rattle.place.proofs.Strings.{before_short, before_end}
use Rattle.place.proofs.before.Goals as goal

pub returns-then-x-i : goal.returns-then-x-i
returns-then-x-i c = let a = c.args in sym (c.loop-i.invariant.1 ∙ before_short a.x.now a.y.now _ c.if-x-i.true c.loop-i-test.true)

pub returns : goal.returns
returns c = let a = c.args in sym (c.loop-i.invariant.1 ∙ before_end a.x.now a.y.now c.loop-i.i c.loop-i-test.false)
