-- `read_c::grants_get` meets its contract: a table without entries is the scan. Assumes nothing.
use Rattle.read.proofs.Answers.{key_plain}
use Rattle.meaning.proofs.Told.{exported_as}
use Rattle.read_c.proofs.grants_get.Goals as goal

pub returns : goal.returns
returns c =
    let a = c.args in
    record { exported = exported_as (key_plain a.store.now a.version a.key.now) c.get_by.ensures }
