-- `palette_give::measure` meets its contract: a key a turn, until one is refused or all are measured. Assumes nothing.
use native.Mathlib.Omega.{arith}
use mathlib.Core.Path.{ap, sym, ◌∙◌}
use Rattle.std.proofs.lemmas.Result.{err_from_is_err_and}
use Rattle.prove.specs.Parts.{proved_says}
use Rattle.prove_write.proofs.Lengths.{not_refused, refusal_planned}
use Rattle.palette_give.specs.Together.{planned_in}
use Rattle.palette_give.proofs.Passing.{measuring_starts, measuring_fits, measuring_refused, measuring_next, measuring_done}
use Rattle.palette_give.proofs.measure.Goals as goal

pub loop-key-init : goal.loop-key-init
loop-key-init c =
    rw c.into_iter-key-iterator.ensures.into_iter_gives
    (c.chunks_exact-key-items.ensures.size, rw c.chunks_exact-key-items.ensures.rest (measuring_starts _ c.args.keys.now c.requires.1))

pub plan_of-plan-requires : goal.plan_of-plan-requires
plan_of-plan-requires c = (c.requires.0, c.in-Some.ensures.steps.1.1 ∙ c.loop-key.invariant.0, c.requires.2)

pub returns-in_err-plan : goal.returns-in_err-plan
unfolding proved_says planned_in
returns-in_err-plan c =
    let planned = c.plan_of-plan in
    let next = c.in-Some.ensures.steps.1 in
    let p = err_from_is_err_and c.from_residual.result c.from_residual.ensures.1 in
    rw (p.1, p.2) (measuring_refused c.loop-key.invariant.1 _ _ next.0 (next.1 ∙ c.loop-key.invariant.0)
    (sym planned.ensures.says ∙ refusal_planned _ _ planned.result c.in_err-plan.was))

pub overflow_add-total : goal.overflow_add-total
overflow_add-total c =
    let planned = c.plan_of-plan in
    let next = c.in-Some.ensures.steps.1 in
    let p = not_refused c.args.store.now c.in-Some.key.now planned.result planned.ensures.within c.in_ok-plan.was in
    omega (arith, measuring_fits c.loop-key.invariant.1 _ _ next.0 (next.1 ∙ c.loop-key.invariant.0) p.few)

pub loop-key-preserved : goal.loop-key-preserved
loop-key-preserved c =
    let planned = c.plan_of-plan in
    let next = c.in-Some.ensures.steps.1 in
    let p = not_refused _ _ planned.result planned.ensures.within c.in_ok-plan.was in (
      c.next.ensures.steps.0 ∙ c.loop-key.invariant.0,
      measuring_next c.loop-key.invariant.1 _ _ next.0 (next.1 ∙ c.loop-key.invariant.0) p.proof (sym planned.ensures.says ∙ p.says) p.long p.few,
    )

pub overflow_cast-result : goal.overflow_cast-result
overflow_cast-result c = omega (arith, c.loop-key.invariant.1.few)

pub returns : goal.returns
unfolding proved_says planned_in
returns c = measuring_done c.loop-key.invariant.1 (omega (arith, c.in-None.ensures.steps.1.0, c.loop-key.invariant.0))
