-- `prove_c::grants_prove` meets its contract: a table without entries is the scan. Assumes nothing.
use lib.ListN.{length}
use Rattle.prove.proofs.Answering.{prove_plain}
use Rattle.prove_c.proofs.Exported.{proof_as, proof_told}
use Rattle.prove_c.proofs.grants_prove.Goals as goal

pub returns : goal.returns
returns c =
    let a = c.args in
    proof_told (proof_as (prove_plain a.store.now a.version a.key.now (length a.room.now)) c.prove_by.ensures)
