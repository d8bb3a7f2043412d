-- `rescue_fill::fill` meets its contract: the target holds the run found up to now, and where versions join no more, it is the longest. Assumes
-- nothing.
use native.Mathlib.Omega.{arith}
use Prim.Native.Nat.{max}
use mathlib.Core.Path.{ap, sym, ◌∙◌, subst}
use Rattle.terms.specs.Bits.{Byte}
use Rattle.terms.proofs.Lists.{all_of}
use Rattle.rescue_step.specs.Step.{StepSays}
use Rattle.rescue_fill.proofs.Filling.{shaped, format_target, format_slots, state_first, fills_oldest, fills_low, fills_stop, state_next, root_falls}
use Rattle.rescue_fill.proofs.fill.Goals as goal

pub enter-requires : goal.enter-requires
enter-requires c = (record { target = format_target c.args.source.now c.args.target.now c.requires.0.size c.requires.0.equal c.format.ensures.bytes c.format.auto.store; proper = c.top-top.ensures.proper }, c.requires.1)

pub loop-top-init : goal.loop-top-init
loop-top-init c =
    let s = c.args.source.now in
    state_first s (all_of Byte s 0 (λ i _. omega (arith, c.shared_slice_known-1.given i))) c.args.oldest c.args.latest (omega arith) c.requires.0.size c.requires.0.ordered c.requires.0.joins
    (format_slots s c.args.target.now c.requires.0.size c.requires.0.equal c.format.ensures.bytes c.format.auto.store) c.top-top.ensures c.enter.ensures

pub finish-requires : goal.finish-requires
finish-requires c = shaped c.args.source.now _ c.loop-top.invariant.target

pub shape_of-target-then-first-oldest : goal.shape_of-target-then-first-oldest
shape_of-target-then-first-oldest c = c.finish.auto.target ∙ c.loop-top.invariant.target.equal ∙ sym c.requires.0.equal

pub returns-then-first-oldest : goal.returns-then-first-oldest
returns-then-first-oldest c =
    let s = c.args.source.now in
    fills_oldest s (all_of Byte s 0 (λ i _. omega (arith, c.shared_slice_known-1.given i))) c.args.oldest c.args.latest (omega arith) c.requires.0.size c.loop-top.invariant (c.later-first.ensures ∙ ap (λ n. max n c.loop-top.b) c.later.ensures)
    c.if-first-oldest.true c.finish.ensures.answer c.finish.ensures.bytes

pub finish-requires-then-b-first : goal.finish-requires-then-b-first
finish-requires-then-b-first c = shaped c.args.source.now _ c.loop-top.invariant.target

pub shape_of-target-then-b-first : goal.shape_of-target-then-b-first
shape_of-target-then-b-first c = c.finish-then-b-first.auto.target ∙ c.loop-top.invariant.target.equal ∙ sym c.requires.0.equal

pub returns-then-b-first : goal.returns-then-b-first
returns-then-b-first c =
    let s = c.args.source.now in
    fills_low s (all_of Byte s 0 (λ i _. omega (arith, c.shared_slice_known-1.given i))) c.args.oldest c.args.latest (omega arith) c.requires.0.size c.loop-top.invariant (c.later-first.ensures ∙ ap (λ n. max n c.loop-top.b) c.later.ensures)
    c.if-first-oldest.false c.if-b-first.true c.finish-then-b-first.ensures.answer c.finish-then-b-first.ensures.bytes

pub overflow_sub-first : goal.overflow_sub-first
overflow_sub-first c = omega (arith, c.if-first-oldest.false)

pub step-stepped-requires : goal.step-stepped-requires
step-stepped-requires c = (c.requires.0.size, c.requires.1, c.loop-top.invariant.right)

pub finish-requires-in_default : goal.finish-requires-in_default
finish-requires-in_default c = shaped c.args.source.now _ c.loop-top.invariant.target

pub shape_of-target-in_default : goal.shape_of-target-in_default
shape_of-target-in_default c = c.finish-in_default.auto.target ∙ c.loop-top.invariant.target.equal ∙ sym c.requires.0.equal

pub returns-in_default : goal.returns-in_default
returns-in_default c =
    let s = c.args.source.now in
    fills_stop s (all_of Byte s 0 (λ i _. omega (arith, c.shared_slice_known-1.given i))) c.args.oldest c.args.latest (omega arith) c.requires.0.size c.loop-top.invariant (c.later-first.ensures ∙ ap (λ n. max n c.loop-top.b) c.later.ensures)
    c.if-first-oldest.false (subst (StepSays s _ _ _ _) c.in_default.is c.step-stepped.ensures) c.finish-in_default.ensures.answer c.finish-in_default.ensures.bytes

pub enter-requires-in-loop-top : goal.enter-requires-in-loop-top
enter-requires-in-loop-top c = (record { target = c.loop-top.invariant.target; proper = c.top-top.ensures.proper }, c.requires.1)

pub loop-top-smaller : goal.loop-top-smaller
loop-top-smaller c =
    let s = c.args.source.now in
    root_falls s (all_of Byte s 0 (λ i _. omega (arith, c.shared_slice_known-1.given i))) c.args.oldest c.args.latest (omega arith) c.requires.0.size c.loop-top.invariant (c.later-first.ensures ∙ ap (λ n. max n c.loop-top.b) c.later.ensures)
    c.if-first-oldest.false (subst (StepSays s _ _ _ _) c.in-Some.is c.step-stepped.ensures) c.if-b-first.false

pub loop-top-preserved : goal.loop-top-preserved
loop-top-preserved c =
    let s = c.args.source.now in
    state_next s (all_of Byte s 0 (λ i _. omega (arith, c.shared_slice_known-1.given i))) c.args.oldest c.args.latest (omega arith) c.requires.0.size c.loop-top.invariant (c.later-first.ensures ∙ ap (λ n. max n c.loop-top.b) c.later.ensures)
    c.if-first-oldest.false (subst (StepSays s _ _ _ _) c.in-Some.is c.step-stepped.ensures) c.top-top.ensures c.enter-in-loop-top.ensures
