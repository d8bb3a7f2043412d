-- `batch::record_at` meets its contract: record i stands at 72 i.
-- Assumes nothing.
use mathlib.Core.Path.{ap, ◌∙◌}
use lib.ListN.{length}
use Rattle.batch.proofs.Records.{record_part, length_record}
use Rattle.batch.proofs.record_at.Goals as goal

pub returns : goal.returns
returns c =
    let a = c.args in
    let e = record_part a.i a.b.now in
    (e, ap length e ∙ length_record a.i a.b.now c.requires)
