-- `read_counts_c::count_by` meets its contract: the case of the read decides the number and the bytes. Assumes nothing.
use Rattle.read_counts_c.proofs.Exported.{count_refused, count_written}
use Rattle.read_counts_c.proofs.count_by.Goals as goal

pub returns-in-Err : goal.returns-in-Err
returns-in-Err c = rw c.code.ensures (count_refused c.grants_count-read.ensures c.args.count.now c.in-Err.is)

pub returns-in-Ok : goal.returns-in-Ok
returns-in-Ok c = count_written c.grants_count-read.ensures c.args.count.now c.in-Ok.is c.put_count.ensures
