-- `read_counts_c::at_by` meets its contract: the case of the read decides the number and the bytes. Assumes nothing.
use Rattle.read_counts_c.proofs.Exported.{at_refused, at_written}
use Rattle.read_counts_c.proofs.at_by.Goals as goal

pub returns-in-Err : goal.returns-in-Err
returns-in-Err c = rw c.code.ensures (at_refused c.grants_at-read.ensures c.args.grant.now c.in-Err.is)

pub returns-in-Ok : goal.returns-in-Ok
returns-in-Ok c = at_written c.grants_at-read.ensures c.args.grant.now c.in-Ok.is c.put_grant.ensures
