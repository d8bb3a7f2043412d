-- `message_leaf::walk` meets its contract: a step a turn, to the end. The measure is what is left of the bytes. Assumes nothing.
use Prim.Native.Nat.{◌-◌}
use mathlib.Core.Path.{◌≡◌}
use Rattle.std.specs.Prelude.{None}
use Rattle.terms.specs.Fields.{slice}
use Rattle.message_fields.proofs.Fields.{stands_as}
use Rattle.message_leaf.proofs.Walking.{walk_start, walk_next, path_too_long, path_no_field, path_no_step, walks_none, walks_all}
use native.Mathlib.Omega.{arith}
use Rattle.message_leaf.proofs.walk.Goals as goal

pub loop-at-init : goal.loop-at-init
loop-at-init c = walk_start c.args.x.now c.args.from c.requires

pub returns-then-count-ge-MOST_STEPS : goal.returns-then-count-ge-MOST_STEPS
returns-then-count-ge-MOST_STEPS c = walks_none (path_too_long c.loop-at.invariant c.loop-at-test.true c.if-count-ge-MOST_STEPS.true)

pub field-requires : goal.field-requires
field-requires c = (c.loop-at.invariant.within, omega arith)

pub returns-in_err-part : goal.returns-in_err-part
returns-in_err-part c =
    let gone : c.from_residual.result ≡ None = grind arith in
    rw gone (walks_none (path_no_field c.loop-at.invariant c.loop-at-test.true (stands_as c.in_err-part.was c.field.ensures)))

pub slice_bounds-is_step-count : goal.slice_bounds-is_step-count
slice_bounds-is_step-count c = omega (arith, (c.field.ensures.inside c.in_ok-part.part c.in_ok-part.was).1)

pub slice_bounds-is_step-start : goal.slice_bounds-is_step-start
slice_bounds-is_step-start c = let i = c.field.ensures.inside c.in_ok-part.part c.in_ok-part.was in omega (arith, i.1, i.2)

pub slice_bounds-is_step-end : goal.slice_bounds-is_step-end
slice_bounds-is_step-end c = omega (arith, (c.field.ensures.inside c.in_ok-part.part c.in_ok-part.was).2)

pub returns-then-not-is_step : goal.returns-then-not-is_step
unfolding slice
returns-then-not-is_step c =
    walks_none (path_no_step c.loop-at.invariant c.loop-at-test.true (stands_as c.in_ok-part.was c.field.ensures) (c.is_step.ensures.no c.if-not-is_step.true))

pub loop-at-smaller : goal.loop-at-smaller
loop-at-smaller c = let i = c.field.ensures.inside c.in_ok-part.part c.in_ok-part.was in omega (arith, i.0, i.1, i.2)

pub loop-at-preserved : goal.loop-at-preserved
unfolding slice
loop-at-preserved c =
    let s = c.is_step.ensures.yes c.if-not-is_step.false in
    walk_next c.loop-at.invariant c.loop-at-test.true (omega arith) (stands_as c.in_ok-part.was c.field.ensures) s.1

pub returns : goal.returns
returns c = walks_all c.loop-at.invariant c.loop-at-test.false
