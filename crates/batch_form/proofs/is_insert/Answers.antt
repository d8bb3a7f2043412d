-- `batch_form::is_insert` meets its contract: the head of a record in form tells.
-- Assumes nothing.
use mathlib.Core.Path.{sym, ap, ◌∙◌}
use Rattle.batch.specs.Batch.{is_insert}
use Rattle.batch.specs.Records.{record_at, ask_at}
use Rattle.batch.proofs.Asks.{insert_is}
use Rattle.batch_form.proofs.is_insert.Goals as goal

pub insert_form-requires : goal.insert_form-requires
insert_form-requires c = c.record_at.ensures.1

pub returns : goal.returns
unfolding ask_at
returns c = let a = c.args in c.insert_form.ensures ∙ ap is_insert c.record_at.ensures.0 ∙ sym (insert_is (record_at a.i a.b.now))
