-- `prove_trails::further` meets its contract: the node's slot is remembered, and the child is looked at. Assumes nothing.
use native.Mathlib.Omega.{arith}
use Rattle.layout.proofs.Headers.{size_says}
use Rattle.prove_trails.proofs.Trails.{gone_further}
use Rattle.prove_trails.proofs.further.Goals as goal

pub overflow_cast-slots : goal.overflow_cast-slots
overflow_cast-slots c = let w = c.requires.0 in omega (arith, w.inside, size_says _ _ w.size)

pub returns : goal.returns
returns c = gone_further c.args.store.now c.args.index.now c.args.trail c.args.i c.args.side _ _ c.requires.0 c.child_place-place.ensures c.child_near-seen.ensures
