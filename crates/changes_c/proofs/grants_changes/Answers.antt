-- `changes_c::grants_changes` meets its contract: the case of the answer decides the number, the room and the four bytes. Assumes nothing.
use Rattle.changes_c.proofs.Exported.{changes_refused, changes_listed}
use borrow.Author.Rules.{rules}
use Rattle.changes_c.proofs.grants_changes.Goals as goal

pub returns-in-Err : goal.returns-in-Err
returns-in-Err c =
    let a = c.args in
    let d = c.changes-compared in
    rw c.number.ensures (changes_refused d.result d.ensures a.records.now c.in-Err.is)

pub returns-in-Ok : goal.returns-in-Ok
returns-in-Ok c =
    let a = c.args in
    let d = c.changes-compared in
    changes_listed d.result d.ensures a.records.now c.in-Ok.is (search rules) c.put_u32.ensures
