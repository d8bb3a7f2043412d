-- `rescue_c::grants_rescue` meets its contract: the number of refusal goes out as it is, the report in 16 bytes. Assumes nothing.
use Rattle.rescue_c.proofs.Exporting.{export_refused, export_kept}
use Rattle.rescue_c.proofs.grants_rescue.Goals as goal

pub returns-in-Err : goal.returns-in-Err
returns-in-Err c = rw c.number.ensures (export_refused _ _ c.rescue-rescued.ensures c.in-Err.is)

pub returns-in-Ok : goal.returns-in-Ok
returns-in-Ok c = export_kept _ _ c.rescue-rescued.ensures c.in-Ok.is c.put_report.ensures
