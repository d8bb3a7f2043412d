-- `read_counts_c::grants_count` meets its contract: a table without entries is the scan. Assumes nothing.
use Rattle.read_number.proofs.Answers.{number_plain}
use Rattle.meaning.proofs.Told.{exported_as}
use Rattle.read_counts_c.proofs.grants_count.Goals as goal

pub returns : goal.returns
returns c =
    let a = c.args in
    record { exported = exported_as (number_plain a.store.now a.version) c.count_by.ensures }
