-- `batch_form::batch_form` meets its contract: the first i records are in form, so those from i on decide.
-- Assumes nothing.
use native.Mathlib.Omega.{arith}
use mathlib.Core.Path.{sym, ap, ◌∙◌}
use Rattle.batch.specs.Batch.{ask_form}
use Rattle.batch.proofs.Batches.{form_torn, form_many, form_records, form_next, form_off, form_end}
use Rattle.batch_form.proofs.batch_form.Goals as goal

pub returns-then-b-ne0 : goal.returns-then-b-ne0
returns-then-b-ne0 c = sym (form_torn c.args.b.now c.if-b-ne0.true)

pub returns-then-n-gt-MOST_RECORDS : goal.returns-then-n-gt-MOST_RECORDS
returns-then-n-gt-MOST_RECORDS c = sym (form_many c.args.b.now c.if-b-ne0.false c.if-n-gt-MOST_RECORDS.true)

pub loop-i-init : goal.loop-i-init
loop-i-init c = (omega arith, form_records c.args.b.now c.if-b-ne0.false c.if-n-gt-MOST_RECORDS.false)

pub record_form-requires : goal.record_form-requires
record_form-requires c = c.record_at.ensures.1

pub returns-then-not-record_form : goal.returns-then-not-record_form
returns-then-not-record_form c = sym (c.loop-i.invariant.1 ∙ form_off c.args.b.now c.loop-i.i (omega arith) (sym (ap ask_form c.record_at.ensures.0) ∙ sym c.record_form.ensures ∙ c.if-not-record_form.true))

pub loop-i-preserved : goal.loop-i-preserved
loop-i-preserved c = (omega arith, c.loop-i.invariant.1 ∙ form_next c.args.b.now c.loop-i.i (omega arith) (sym (ap ask_form c.record_at.ensures.0) ∙ sym c.record_form.ensures ∙ c.if-not-record_form.false))

pub returns : goal.returns
returns c = sym (c.loop-i.invariant.1 ∙ form_end c.args.b.now c.loop-i.i (omega arith))
