-- `read::get` meets its contract: the key's length, what is tested first, then the walk. Assumes nothing.
use Rattle.std.proofs.lemmas.Result.{err_from_is_err_and}
use Rattle.read.proofs.Answers.{size_kept, key_wrong, key_refused, key_read}
use Rattle.read.proofs.get.Goals as goal

pub returns-then-key-ne32 : goal.returns-then-key-ne32
returns-then-key-ne32 c = let a = c.args in key_wrong a.store.now a.index.now a.version a.key.now c.if-key-ne32.true

pub returns-in_err-open : goal.returns-in_err-open
returns-in_err-open c =
    let a = c.args in
    let p = err_from_is_err_and c.from_residual.result c.from_residual.ensures.1 in
    rw (p.1, p.2) (key_refused a.store.now a.version a.index.now a.key.now c.if-key-ne32.false _ c.in_err-open.ensures)

pub walk_read-requires : goal.walk_read-requires
walk_read-requires c =
    let a = c.args in
    (size_kept a.store.now a.version c.in_ok-open.ensures, c.if-key-ne32.false)

pub returns : goal.returns
returns c =
    let a = c.args in
    key_read a.store.now a.version a.index.now a.key.now c.if-key-ne32.false c.walk_read.result
    c.in_ok-open.ensures c.walk_read.ensures
