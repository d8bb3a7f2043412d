-- `batch_form::delete_form` meets its contract: the head of a delete, and a zero value.
-- Assumes nothing.
use mathlib.Core.Path.{sym, ◌∙◌}
use Rattle.terms.specs.Fields.{slice}
use Rattle.batch.specs.Batch.{is_delete}
use Rattle.batch_form.proofs.delete_form.Goals as goal

pub returns-then-not-head_is : goal.returns-then-not-head_is
unfolding is_delete
returns-then-not-head_is c = rw (sym c.head_is.ensures ∙ c.if-not-head_is.true)

pub returns : goal.returns
unfolding is_delete slice
returns c = rw (sym c.head_is.ensures ∙ c.if-not-head_is.false) c.all_zero.ensures
