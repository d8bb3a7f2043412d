-- `read_position::grants_at` meets its contract: what is tested first is refused first. Assumes nothing.
use Rattle.std.proofs.lemmas.Result.{err_from_is_err_and}
use Rattle.read_position.proofs.Answers.{size_kept, position_refused, position_is_read}
use Rattle.read_position.proofs.grants_at.Goals as goal

pub returns-in_err-open : goal.returns-in_err-open
returns-in_err-open c =
    let a = c.args in
    let p = err_from_is_err_and c.from_residual.result c.from_residual.ensures.1 in
    rw (p.1, p.2) (position_refused a.store.now a.version a.position a.index.now _ c.in_err-open.ensures)

pub root_position-requires : goal.root_position-requires
root_position-requires c =
    let a = c.args in
    size_kept a.store.now a.version a.position c.in_ok-open.ensures

pub returns : goal.returns
returns c =
    let a = c.args in
    position_is_read a.store.now a.version a.position a.index.now c.root_position.result c.in_ok-open.ensures c.root_position.ensures
