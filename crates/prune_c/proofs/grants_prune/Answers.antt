-- `prune_c::grants_prune` meets its contract: the number of refusal goes out as it is, the count in four bytes. Assumes nothing.
use borrow.Author.Rules.{rules}
use Rattle.prune_c.proofs.Exporting.{export_refused, export_freed}
use Rattle.prune_c.proofs.grants_prune.Goals as goal

pub returns-in-Err : goal.returns-in-Err
returns-in-Err c = rw c.number.ensures (export_refused _ c.prune-answer.ensures c.in-Err.is)

pub returns-in-Ok : goal.returns-in-Ok
returns-in-Ok c = export_freed _ c.prune-answer.ensures c.in-Ok.is (search rules) c.put_u32.ensures
