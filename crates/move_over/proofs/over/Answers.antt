-- `move_over::over` meets its contract: refused by its tests, or filled. Assumes nothing.
use Rattle.move_rules.specs.Moves.{moves}
use Rattle.move_open.proofs.Opening.{move_refused, move_passed}
use Rattle.move_over.proofs.over.Goals as goal

pub returns-in-Err : goal.returns-in-Err
returns-in-Err c = rw c.number.ensures (move_refused c.open.ensures c.in-Err.is)

pub fill-requires : goal.fill-requires
fill-requires c =
    let w = move_passed c.open.ensures c.in_default.is in
    (w.room, w.sound)

pub returns : goal.returns
returns c =
    let w = move_passed c.open.ensures c.in_default.is in
    moves w.room w.headed w.sound c.fill.ensures
