-- `figures::grants_figures` meets its contract: the case of the answer decides the number, the room and the eight bytes. Assumes nothing.
use Rattle.figures.proofs.Exported.{figures_refused, figures_told}
use Rattle.figures.proofs.grants_figures.Goals as goal

pub returns-in-Err : goal.returns-in-Err
returns-in-Err c =
    let a = c.args in
    let d = c.figures-figured in
    rw c.number.ensures (figures_refused d.ensures a.totals.now c.in-Err.is)

pub returns-in-Ok : goal.returns-in-Ok
returns-in-Ok c =
    let a = c.args in
    let d = c.figures-figured in
    figures_told d.ensures a.totals.now c.in-Ok.is c.put_totals.ensures
