-- `read_descent::descend` meets its contract: each turn goes to the side that the position is on by the left count. Assumes nothing.
use native.Mathlib.Omega.{arith}
use Prim.Native.Nat.{◌-◌}
use mathlib.Core.Path.{◌∙◌}
use Rattle.std.proofs.lemmas.Result.{err_from_is_err_and}
use Rattle.read_descent.proofs.Descending.{set_out, at_slot, ends_at_leaf, inner_short, ends_refused, goes_on}
use Rattle.read_descent.proofs.descend.Goals as goal

pub loop-place-init : goal.loop-place-init
loop-place-init c = set_out c.requires c.top-place.ensures

pub leaf_here-requires : goal.leaf_here-requires
leaf_here-requires c = at_slot c.loop-place.invariant

pub leaf_at-requires : goal.leaf_at-requires
leaf_at-requires c = c.loop-place.invariant.holds.slotted

pub returns-then-leaf_here : goal.returns-then-leaf_here
returns-then-leaf_here c = c.leaf_at.ensures ∙ ends_at_leaf c.loop-place.invariant c.leaf_here.ensures c.if-leaf_here.true

pub turn_at-turn-requires : goal.turn_at-turn-requires
turn_at-turn-requires c = at_slot c.loop-place.invariant

pub child_place-place-requires : goal.child_place-place-requires
child_place-place-requires c =
    let w = c.loop-place.invariant in
    (w.holds.slotted.proper, inner_short w c.leaf_here.ensures c.if-leaf_here.false)

pub kid-requires : goal.kid-requires
kid-requires c =
    let w = c.loop-place.invariant in
    record { size = w.holds.slotted.size; inside = w.holds.slotted.inside; proper = c.child_place-place.ensures.proper }

pub returns-in_err-at : goal.returns-in_err-at
returns-in_err-at c =
    let p = err_from_is_err_and c.from_residual.result c.from_residual.ensures.1 in
    rw (p.1, p.2) (ends_refused c.loop-place.invariant c.leaf_here.ensures c.if-leaf_here.false c.turn_at-turn.result c.turn_at-turn.ensures c.child_place-place.ensures _ c.kid.ensures c.in_err-at.was)

pub loop-place-smaller : goal.loop-place-smaller
loop-place-smaller c = omega (arith, inner_short c.loop-place.invariant c.leaf_here.ensures c.if-leaf_here.false, c.child_place-place.ensures.count)

pub loop-place-preserved : goal.loop-place-preserved
loop-place-preserved c = goes_on c.loop-place.invariant c.leaf_here.ensures c.if-leaf_here.false c.turn_at-turn.result c.turn_at-turn.ensures c.child_place-place.ensures _ c.kid.ensures c.in_ok-at.was
