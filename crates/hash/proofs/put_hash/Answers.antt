-- Four numbers written one after the other are the bytes of the hash.
-- Assumes nothing.
use Rattle.hash.proofs.Laws.{four_puts}
use Rattle.hash.proofs.put_hash.Goals as goal

pub returns : goal.returns
returns c =
    let a = c.args in
    four_puts a.h a.s.now _ _ _ _ c.put_number.ensures c.put_number-2.ensures c.put_number-3.ensures
    c.put_number-4.ensures
