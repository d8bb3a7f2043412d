-- `read::root` meets its contract: what is tested first is refused first. Assumes nothing.
use Rattle.std.proofs.lemmas.Result.{err_from_is_err_and}
use Rattle.read.proofs.Answers.{size_kept, root_refused, root_is_read}
use Rattle.read.proofs.root.Goals as goal

pub returns-in_err-open : goal.returns-in_err-open
returns-in_err-open c =
    let a = c.args in
    let p = err_from_is_err_and c.from_residual.result c.from_residual.ensures.1 in
    rw (p.1, p.2) (root_refused a.store.now a.version a.index.now _ c.in_err-open.ensures)

pub root_hash-requires : goal.root_hash-requires
root_hash-requires c =
    let a = c.args in
    size_kept a.store.now a.version c.in_ok-open.ensures

pub returns : goal.returns
returns c =
    let a = c.args in
    root_is_read a.store.now a.version a.index.now c.root_hash.result c.in_ok-open.ensures c.root_hash.ensures
