-- `prove_trails::walk` meets its contract: each turn passes one inner node, by the key's bit. Assumes nothing.
use Prim.Native.Nat.{◌-◌}
use native.Mathlib.Omega.{arith}
use Rattle.prove_trails.proofs.Trails.{at_inner}
use Rattle.prove_trails.proofs.Walking.{walking_start, walking_next, walk_ended}
use borrow.Enum.Refused.{opened}
use Rattle.prove_trails.proofs.walk.Goals as goal

pub loop-trail-init : goal.loop-trail-init
loop-trail-init c = walking_start c.args.store.now c.args.index.now c.args.version c.args.key.now _ c.start-trail.ensures

pub key_bit-turn-requires : goal.key_bit-turn-requires
key_bit-turn-requires c = let a = at_inner c.loop-trail.invariant.trail c.in-Inner.is in omega (arith, a.short, c.requires.1)

pub deepest-left-requires : goal.deepest-left-requires
deepest-left-requires c = let a = at_inner c.loop-trail.invariant.trail c.in-Inner.is in (a.size, a.inside)

pub deepest-right-requires : goal.deepest-right-requires
deepest-right-requires c = let a = at_inner c.loop-trail.invariant.trail c.in-Inner.is in (a.size, a.inside)

pub further-trail-requires : goal.further-trail-requires
further-trail-requires c = (at_inner c.loop-trail.invariant.trail c.in-Inner.is, c.requires.2)

pub loop-trail-smaller : goal.loop-trail-smaller
loop-trail-smaller c = let a = at_inner c.loop-trail.invariant.trail c.in-Inner.is in omega (arith, a.short, c.further-trail.ensures.place.count)

pub loop-trail-preserved : goal.loop-trail-preserved
loop-trail-preserved c = walking_next _ _ _ _ c.loop-trail.invariant c.in-Inner.is c.key_bit-turn.ensures c.deepest-left.ensures c.deepest-right.ensures c.further-trail.ensures

pub returns : goal.returns
returns c = walk_ended _ _ _ c.loop-trail.invariant (opened c.in_default.in_default-own.keys2)
