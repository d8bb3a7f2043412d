-- `read_key::walk_read` meets its contract: each turn goes to the child on the side of the key's next bit. Assumes nothing.
use native.Mathlib.Omega.{arith}
use Prim.Native.Nat.{◌-◌}
use mathlib.Core.Path.{◌∙◌}
use Rattle.read_key.proofs.Walking.{set_out, ends_at_gap, ends_stopped, leaf_inside, ends_at_leaf, inner_short, inner_slotted, goes_on}
use Rattle.read_key.proofs.walk_read.Goals as goal

pub loop-seen-init : goal.loop-seen-init
loop-seen-init c = let h = c.requires in set_out h.0 h.1 c.top-place.ensures c.root-seen.ensures

pub returns-in-Gap : goal.returns-in-Gap
returns-in-Gap c = ends_at_gap c.loop-seen.invariant c.in-Gap.is

pub returns-in-Stopped : goal.returns-in-Stopped
returns-in-Stopped c = ends_stopped c.loop-seen.invariant _ _ c.in-Stopped.is c.refusal.ensures

pub leaf_read-requires : goal.leaf_read-requires
leaf_read-requires c = let w = c.loop-seen.invariant in (w.size, leaf_inside w c.in-Leaf.is)

pub returns-in-Leaf : goal.returns-in-Leaf
returns-in-Leaf c = c.leaf_read.ensures ∙ ends_at_leaf c.loop-seen.invariant _ c.in-Leaf.is

pub key_bit-side-requires : goal.key_bit-side-requires
key_bit-side-requires c =
    let w = c.loop-seen.invariant in
    let h = inner_short w c.in-Inner.is in
    omega (arith, w.whole)

pub child_place-place-requires : goal.child_place-place-requires
child_place-place-requires c =
    let w = c.loop-seen.invariant in
    (w.proper, inner_short w c.in-Inner.is)

pub child-seen-requires : goal.child-seen-requires
child-seen-requires c = inner_slotted c.loop-seen.invariant c.in-Inner.is c.child_place-place.ensures.proper

pub loop-seen-smaller : goal.loop-seen-smaller
loop-seen-smaller c =
    let h = inner_short c.loop-seen.invariant c.in-Inner.is in
    omega (arith, c.child_place-place.ensures.count)

pub loop-seen-preserved : goal.loop-seen-preserved
loop-seen-preserved c =
    goes_on c.loop-seen.invariant c.in-Inner.is c.key_bit-side.ensures c.child_place-place.ensures
    c.child-seen.ensures
