-- `rescue::rescue` meets its contract: the tests in turn, then the target is filled and counted. Assumes nothing.
use native.Mathlib.Omega.{arith}
use mathlib.Core.Path.{sym, ◌∙◌, subst}
use Rattle.terms.specs.Bits.{Byte}
use Rattle.terms.proofs.Lists.{all_of}
use Rattle.rescue_step.specs.Step.{StepSays}
use Rattle.rescue_step.proofs.Stepping.{right_nothing}
use Rattle.rescue.proofs.Answering.{wrong_source, wrong_target, disordered, fillable, no_run, kept}
use Rattle.rescue.proofs.rescue.Goals as goal

pub returns-then-not-size_right : goal.returns-then-not-size_right
returns-then-not-size_right c = wrong_source c.args.oldest c.args.latest c.args.source.now c.args.target.now (sym c.size_right.ensures ∙ c.if-not-size_right.true)

pub returns-then-target-source : goal.returns-then-target-source
returns-then-target-source c = wrong_target c.args.oldest c.args.latest c.args.source.now c.args.target.now c.if-target-source.true

pub returns-then-latest-oldest : goal.returns-then-latest-oldest
returns-then-latest-oldest c = disordered c.args.oldest c.args.latest c.args.source.now c.args.target.now (sym c.size_right.ensures ∙ c.if-not-size_right.false) c.if-target-source.false c.if-latest-oldest.true

pub guide-order-requires : goal.guide-order-requires
guide-order-requires c = sym c.size_right.ensures ∙ c.if-not-size_right.false

pub step-tested-requires : goal.step-tested-requires
step-tested-requires c =
    let s = c.args.source.now in
    let size = sym c.size_right.ensures ∙ c.if-not-size_right.false in
    (size, c.guide-order.ensures, right_nothing s size (all_of Byte s 0 (λ i _. omega (arith, c.shared_slice_known-1.given i))))

pub returns-in_default : goal.returns-in_default
returns-in_default c =
    let s = c.args.source.now in
    no_run c.args.oldest c.args.latest s c.args.target.now (sym c.size_right.ensures ∙ c.if-not-size_right.false) c.if-target-source.false c.if-latest-oldest.false
    (all_of Byte s 0 (λ i _. omega (arith, c.shared_slice_known-1.given i))) (omega arith) (subst (StepSays s c.args.latest 0 0 0) c.in_default.is c.step-tested.ensures)

pub fill-first-requires : goal.fill-first-requires
fill-first-requires c =
    let s = c.args.source.now in (
      fillable c.args.oldest c.args.latest s c.args.target.now (sym c.size_right.ensures ∙ c.if-not-size_right.false) c.if-target-source.false c.if-latest-oldest.false
          (subst (StepSays s c.args.latest 0 0 0) c.in-Some.is c.step-tested.ensures),
      c.guide-order.ensures,
    )

pub count-counts-requires : goal.count-counts-requires
count-counts-requires c = record { size = sym c.size_right.ensures ∙ c.if-not-size_right.false; equal = c.fill-first.auto.target ∙ c.if-target-source.false }

pub returns : goal.returns
returns c =
    kept c.args.oldest c.args.latest c.args.source.now c.args.target.now (sym c.size_right.ensures ∙ c.if-not-size_right.false) c.if-target-source.false c.if-latest-oldest.false
    (all_of Byte c.args.source.now 0 (λ i _. omega (arith, c.shared_slice_known-1.given i))) (omega arith) c.fill-first.ensures c.count-counts.ensures
