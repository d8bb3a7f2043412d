-- `batch_form::record_form` meets its contract: an insert or a delete in form.
-- Assumes nothing.
use mathlib.Core.Path.{sym, ◌∙◌}
use Rattle.batch.specs.Batch.{ask_form}
use Rattle.batch_form.proofs.record_form.Goals as goal

pub returns-then-insert_form : goal.returns-then-insert_form
unfolding ask_form
returns-then-insert_form c = rw (sym c.insert_form.ensures ∙ c.if-insert_form.true)

pub returns : goal.returns
unfolding ask_form
returns c = rw (sym c.insert_form.ensures ∙ c.if-insert_form.false) c.delete_form.ensures
