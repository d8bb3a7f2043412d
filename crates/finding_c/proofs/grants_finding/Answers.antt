-- `finding_c::grants_finding` meets its contract: the number of refusal goes out as it is, what is found in 131 bytes. Assumes nothing.
use Rattle.finding_c.proofs.Exported.{finding_refused, finding_given}
use Rattle.finding_c.proofs.grants_finding.Goals as goal

pub returns-in-Err : goal.returns-in-Err
returns-in-Err c = rw c.number.ensures (finding_refused c.finding-found.result c.finding-found.ensures c.args.answer.now c.in-Err.is)

pub returns-in-Ok : goal.returns-in-Ok
returns-in-Ok c = finding_given c.finding-found.result c.finding-found.ensures c.args.answer.now c.in-Ok.is c.put_named.ensures
