-- `read_counts_c::grants_at` meets its contract: a table without entries is the scan. Assumes nothing.
use Rattle.read_position.proofs.Answers.{position_plain}
use Rattle.meaning.proofs.Told.{exported_as}
use Rattle.read_counts_c.proofs.grants_at.Goals as goal

pub returns : goal.returns
returns c =
    let a = c.args in
    record { exported = exported_as (position_plain a.store.now a.version a.position) c.at_by.ensures }
