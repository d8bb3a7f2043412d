-- `palette_give::fill` meets its contract: a proof a turn, each after the one before. Assumes nothing.
use native.Mathlib.Omega.{arith}
use mathlib.Core.Path.{refl, ap, sym, ◌∙◌}
use Rattle.prove_paths.proofs.Records.{part_room}
use Rattle.prove_write.specs.Written.{planned_length, planned_bytes}
use Rattle.prove_write.proofs.Lengths.{planned}
use Rattle.palette_give.specs.Together.{planned_in}
use Rattle.palette_give.proofs.Filling.{its_length, filling_starts, next, filling_next, filling_done}
use Rattle.palette_give.proofs.fill.Goals as goal

pub loop-key-init : goal.loop-key-init
unfolding planned_in
loop-key-init c =
    rw c.into_iter-key-iterator.ensures.into_iter_gives (
      c.chunks_exact-key-items.ensures.size,
      rw c.chunks_exact-key-items.ensures.rest (filling_starts _ c.args.keys.now c.args.part.now c.requires.1 c.requires.2),
    )

pub plan_of-plan-requires : goal.plan_of-plan-requires
plan_of-plan-requires c = (c.requires.0, c.in-Some.ensures.steps.1.1 ∙ c.loop-key.invariant.0, c.requires.3)

pub overflow_add-next : goal.overflow_add-next
overflow_add-next c =
    let here = c.in-Some.ensures.steps.1 in
    let n = next c.loop-key.invariant.1 _ _ here.0 (here.1 ∙ c.loop-key.invariant.0) in
    let its = c.plan_of-plan in
    let p = planned _ _ its.result n.proof its.ensures.within (its.ensures.says ∙ n.is) in
    omega (arith, n.fits p.few)

pub slice_bounds-write-end : goal.slice_bounds-write-end
slice_bounds-write-end c =
    let here = c.in-Some.ensures.steps.1 in
    let n = next c.loop-key.invariant.1 _ _ here.0 (here.1 ∙ c.loop-key.invariant.0) in
    let its = c.plan_of-plan in
    let e = its.ensures.says ∙ n.is in
    let p = planned _ _ its.result n.proof its.ensures.within e in
    let l = its_length p.proof n.proof p.says e p.long in
    omega (arith, n.reaches, l, c.loop-key.invariant.1.long)

pub write-requires : goal.write-requires
write-requires c =
    let here = c.in-Some.ensures.steps.1 in
    let whole = here.1 ∙ c.loop-key.invariant.0 in
    let n = next c.loop-key.invariant.1 _ _ here.0 whole in
    let its = c.plan_of-plan in
    let e = its.ensures.says ∙ n.is in
    let p = planned _ _ its.result n.proof its.ensures.within e in
    let l = its_length p.proof n.proof p.says e p.long in
    (its.ensures.within, whole, part_room _ _ _ _ refl (omega (arith, n.reaches, l, c.loop-key.invariant.1.long)) ∙ p.long ∙ sym (ap planned_length p.says))

pub loop-key-preserved : goal.loop-key-preserved
loop-key-preserved c =
    let here = c.in-Some.ensures.steps.1 in
    let whole = here.1 ∙ c.loop-key.invariant.0 in
    let n = next c.loop-key.invariant.1 _ _ here.0 whole in
    let e = c.plan_of-plan.ensures.says ∙ n.is in
    let p = planned _ _ c.plan_of-plan.result n.proof c.plan_of-plan.ensures.within e in
    let l = its_length p.proof n.proof p.says e p.long in (
      c.next.ensures.steps.0 ∙ c.loop-key.invariant.0,
      filling_next c.loop-key.invariant.1 _ _ here.0 whole n c.write.new.part l p.few c.write.auto.part (c.write.ensures ∙ ap planned_bytes e),
    )

pub shape_of-part : goal.shape_of-part
shape_of-part c = c.loop-key.invariant.1.long

pub returns : goal.returns
unfolding planned_in
returns c = filling_done c.loop-key.invariant.1 (omega (arith, c.in-None.ensures.steps.1.0, c.loop-key.invariant.0))
