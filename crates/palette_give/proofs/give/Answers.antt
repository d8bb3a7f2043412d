-- `palette_give::give` meets its contract: the room is known before a byte is written. Assumes nothing.
use Rattle.palette_give.specs.Together.{planned_in}
use Rattle.palette_give.proofs.Giving.{no_room, front_long, with_room}
use Rattle.palette_give.proofs.give.Goals as goal

pub returns-then-room-end : goal.returns-then-room-end
returns-then-room-end c =
    let a = c.args in
    no_room (planned_in a.store.now a.index.now a.version a.keys.now) a.len c.args.room.now c.requires.2 c.if-room-end.true

pub fill-requires : goal.fill-requires
fill-requires c =
    let a = c.args in
    (c.requires.0, c.requires.1, front_long (planned_in a.store.now a.index.now a.version a.keys.now) a.len c.args.room.now c.requires.2 c.if-room-end.false, c.requires.3)

pub returns : goal.returns
returns c =
    let a = c.args in
    with_room (planned_in a.store.now a.index.now a.version a.keys.now) a.len c.args.room.now c.requires.2 _ c.if-room-end.false c.fill.auto.part c.fill.ensures
