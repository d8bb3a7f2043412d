-- `read_open::open` meets its contract: the header, oldest and latest are tested in the order of the definition. Assumes nothing.
use Rattle.std.proofs.lemmas.Result.{err_from_is_err_and}
use Rattle.read_open.proofs.Opening.{header_refused, before_oldest, after_latest, version_kept}
use Rattle.read_open.proofs.open.Goals as goal

pub returns-in_err-header : goal.returns-in_err-header
returns-in_err-header c =
    let p = err_from_is_err_and c.from_residual.result c.from_residual.ensures.1 in
    rw (p.1, p.2) (header_refused _ _ c.read_header.ensures c.in_err-header.was)

pub returns-then-version-header : goal.returns-then-version-header
returns-then-version-header c = before_oldest _ _ c.read_header.ensures c.in_ok-header.was c.if-version-header.true

pub returns-then-header-version : goal.returns-then-header-version
returns-then-header-version c = after_latest _ _ c.read_header.ensures c.in_ok-header.was c.if-version-header.false c.if-header-version.true

pub returns : goal.returns
returns c = version_kept _ _ c.read_header.ensures c.in_ok-header.was c.if-version-header.false c.if-header-version.false
