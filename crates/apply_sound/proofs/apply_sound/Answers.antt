-- `apply_sound::apply_sound` meets its contract: the form and the order of the batch are tested first. Assumes nothing.
use native.Mathlib.Omega.{arith}
use mathlib.Core.Path.{sym, ◌∙◌}
use Rattle.terms.specs.Bits.{Byte}
use Rattle.terms.proofs.Lists.{all_of}
use Rattle.batch.proofs.Runs.{run_of_batch}
use Rattle.apply_answer.specs.Answers.{applied_says}
use Rattle.apply_sound.proofs.Refusing.{refused_4, refused_5}
use Rattle.apply_sound.proofs.apply_sound.Goals as goal

pub returns-then-not-batch_form : goal.returns-then-not-batch_form
unfolding applied_says
returns-then-not-batch_form c = refused_4 c.requires c.args.number c.args.batch.now (sym c.batch_form.ensures ∙ c.if-not-batch_form.true)

pub returns-then-not-batch_order : goal.returns-then-not-batch_order
unfolding applied_says
returns-then-not-batch_order c = refused_5 c.requires c.args.number c.args.batch.now (sym c.batch_form.ensures ∙ c.if-not-batch_form.false) (sym c.batch_order.ensures ∙ c.if-not-batch_order.true)

pub publish-requires : goal.publish-requires
publish-requires c =
    let a = c.args.batch.now in
    let f = sym c.batch_form.ensures ∙ c.if-not-batch_form.false in
    record {
      sound = c.requires;
      form = f;
      run = run_of_batch a (all_of Byte a 0 (λ i _. omega (arith, c.shared_slice_known-1.given i))) f (sym c.batch_order.ensures ∙ c.if-not-batch_order.false);
    }
