-- `batch::key` meets its contract: the key stands at 8 in its record.
-- Assumes nothing.
use mathlib.Core.Path.{ap, ◌∙◌}
use lib.ListN.{length}
use Rattle.batch.proofs.Records.{key_part_lem, length_key}
use Rattle.batch.proofs.key.Goals as goal

pub returns : goal.returns
returns c =
    let a = c.args in
    let e = key_part_lem a.i a.b.now in
    (e, ap length e ∙ length_key a.i a.b.now c.requires)
