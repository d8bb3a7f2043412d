-- `palette_near::follow` meets its contract: each guess that is kept leads. Assumes nothing.
use Prim.Native.Nat.{◌-◌}
use native.Mathlib.Omega.{arith}
use Rattle.store.proofs.Slots.{slot_within}
use Rattle.palette_near.proofs.follow.Goals as goal

pub loop-place-init : goal.loop-place-init
loop-place-init c = (c.requires.3, c.top-place.ensures.proper)

pub returns-then-n-i : goal.returns-then-n-i
returns-then-n-i c = c.loop-place.invariant.0

pub slot_of-requires : goal.slot_of-requires
slot_of-requires c = slot_within {s = c.args.store.now} (record { size = c.requires.0; inside = omega (arith, c.requires.1, c.if-n-i.false) })

pub returns-then-is_leaf : goal.returns-then-is_leaf
returns-then-is_leaf c = c.loop-place.invariant.0

pub key_bit-side-requires : goal.key_bit-side-requires
key_bit-side-requires c = omega (arith, c.loop-place-test.true, c.requires.2)

pub child_place-place-requires : goal.child_place-place-requires
child_place-place-requires c = (c.loop-place.invariant.1, c.loop-place-test.true)

pub child_slot-next-requires : goal.child_slot-next-requires
child_slot-next-requires c = (record { size = c.requires.0; inside = omega (arith, c.requires.1, c.if-n-i.false); proper = c.child_place-place.ensures.proper }, c.loop-place.invariant.0)

pub returns-then-next-eq0 : goal.returns-then-next-eq0
returns-then-next-eq0 c = c.child_slot-next.ensures

pub loop-place-smaller : goal.loop-place-smaller
loop-place-smaller c = omega (arith, c.child_place-place.ensures.count, c.loop-place-test.true)

pub loop-place-preserved : goal.loop-place-preserved
loop-place-preserved c = (c.child_slot-next.ensures, c.child_place-place.ensures.proper)

pub returns : goal.returns
returns c = c.loop-place.invariant.0
