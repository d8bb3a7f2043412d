-- `read_c::grants_root` meets its contract: a table without entries is the scan. Assumes nothing.
use Rattle.read.proofs.Answers.{root_plain}
use Rattle.meaning.proofs.Told.{exported_as}
use Rattle.read_c.proofs.grants_root.Goals as goal

pub returns : goal.returns
returns c =
    let a = c.args in
    record { exported = exported_as (root_plain a.store.now a.version) c.root_by.ensures }
