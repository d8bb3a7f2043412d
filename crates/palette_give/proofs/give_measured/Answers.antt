-- `palette_give::give_measured` meets its contract: the first refusal, or the proofs. Assumes nothing.
use Rattle.std.proofs.lemmas.Result.{err_from_is_err_and}
use Rattle.palette_give.specs.Together.{planned_in}
use Rattle.palette_give.proofs.Giving.{single_refused, measured_length}
use Rattle.palette_give.proofs.give_measured.Goals as goal

pub give-requires : goal.give-requires
give-requires c = (c.requires.0, c.requires.1, measured_length _ c.measure.ensures c.in_ok-len.was, c.requires.2)

pub returns-in_err-len : goal.returns-in_err-len
returns-in_err-len c =
    let a = c.args in
    let p = err_from_is_err_and c.from_residual.result c.from_residual.ensures.1 in
    rw (p.1, p.2) (single_refused (planned_in a.store.now a.index.now a.version a.keys.now) a.room.now _ c.measure.ensures c.in_err-len.was)
