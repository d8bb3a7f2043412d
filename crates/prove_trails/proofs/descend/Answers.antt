-- `prove_trails::descend` meets its contract: each turn goes one inner node further, to the side where it can, until a leaf. Assumes nothing.
use Prim.Native.Nat.{◌-◌}
use native.Mathlib.Omega.{arith}
use mathlib.Core.Path.{refl}
use Rattle.read_step.specs.declared.Seen.TheVariants.{Gap, Stopped}
use Rattle.prove_trails.proofs.Trails.{at_inner}
use Rattle.prove_trails.proofs.Searches.{descent_start, descent_next, descent_leaf, descent_stopped_lem}
use Rattle.read_step.specs.declared.Trouble.TheVariants as trouble
use Rattle.prove_trails.proofs.descend.Goals as goal

pub loop-i-init : goal.loop-i-init
loop-i-init c = descent_start _ _ _ _ c.requires.0

pub towards-turn-requires : goal.towards-turn-requires
towards-turn-requires c = let a = at_inner c.loop-i.invariant.trail c.in-Inner.is in (a.size, a.inside)

pub further-here-requires : goal.further-here-requires
further-here-requires c = (at_inner c.loop-i.invariant.trail c.in-Inner.is, c.requires.1)

pub loop-i-smaller : goal.loop-i-smaller
loop-i-smaller c = let a = at_inner c.loop-i.invariant.trail c.in-Inner.is in omega (arith, a.short, c.further-here.ensures.place.count)

pub loop-i-preserved : goal.loop-i-preserved
loop-i-preserved c = descent_next c.loop-i.invariant _ _ c.in-Inner.is c.towards-turn.ensures c.further-here.ensures

pub returns-in-Leaf : goal.returns-in-Leaf
returns-in-Leaf c = descent_leaf c.loop-i.invariant _ c.in-Leaf.is c.answer.ensures

pub returns-in-Gap : goal.returns-in-Gap
returns-in-Gap c = descent_stopped_lem c.loop-i.invariant Gap trouble.Lost c.in-Gap.is refl c.answer-in-Gap.ensures

pub returns-in-Stopped : goal.returns-in-Stopped
returns-in-Stopped c = descent_stopped_lem c.loop-i.invariant (Stopped _) _ c.in-Stopped.is refl c.answer-in-Stopped.ensures
