-- `batch_form::insert_form` meets its contract: the head of an insert.
-- Assumes nothing.
use Rattle.batch.specs.Batch.{is_insert}
use Rattle.batch_form.proofs.insert_form.Goals as goal

pub returns : goal.returns
unfolding is_insert
returns c = c.head_is.ensures
