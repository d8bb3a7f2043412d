-- `changes::changes_sound` meets its contract: both versions are tested, then compared. Assumes nothing.
use Rattle.std.proofs.lemmas.Result.{err_from_is_err_and}
use Rattle.changes.proofs.Opening.{is_kept_lem, not_kept, first_refused, second_refused}
use Rattle.changes.proofs.changes_sound.Goals as goal

pub returns-in_err-open : goal.returns-in_err-open
returns-in_err-open c =
    let a = c.args in
    let p = err_from_is_err_and c.from_residual.result c.from_residual.ensures.1 in
    rw (p.1, p.2) (first_refused c.requires a.first a.second a.limit a.room.now (not_kept c.requires a.first c.in_err-open.ensures))

pub returns-in_err-open-2 : goal.returns-in_err-open-2
returns-in_err-open-2 c =
    let a = c.args in
    let p = err_from_is_err_and c.from_residual-in_err-open-2.result c.from_residual-in_err-open-2.ensures.1 in
    rw (p.1, p.2) (second_refused c.requires a.first a.second a.limit a.room.now (not_kept c.requires a.second c.in_err-open-2.ensures))

pub changes_kept-requires : goal.changes_kept-requires
changes_kept-requires c =
    let a = c.args in
    let w = c.requires in
    (w, is_kept_lem w a.first c.in_ok-open.ensures, is_kept_lem w a.second c.in_ok-open-2.ensures)
