-- `prove::give` meets its contract: the room is known before a byte is written. Assumes nothing.
use native.Mathlib.Omega.{arith}
use Rattle.std.proofs.lemmas.Result.{err_from_is_err_and}
use Rattle.prove_write.proofs.Lengths.{not_refused, refusal_planned}
use Rattle.prove.proofs.Giving.{planned_refusal, no_room, part_long, with_room}
use Rattle.prove.proofs.give.Goals as goal

pub returns-in_err-plan : goal.returns-in_err-plan
returns-in_err-plan c =
    let p = err_from_is_err_and c.from_residual.result c.from_residual.ensures.1 in
    rw (p.1, p.2) (planned_refusal _ c.args.room.now (refusal_planned c.args.store.now c.args.key.now c.args.plan c.in_err-plan.was))

pub returns-then-room-len : goal.returns-then-room-len
returns-then-room-len c =
    let p = not_refused c.args.store.now c.args.key.now c.args.plan c.requires.0 c.in_ok-plan.was in
    no_room c.args.room.now p.proof p.says p.long c.if-room-len.true

pub write-requires : goal.write-requires
write-requires c =
    let p = not_refused c.args.store.now c.args.key.now c.args.plan c.requires.0 c.in_ok-plan.was in
    (c.requires.0, c.requires.1, part_long c.args.room.now p.proof p.says p.long c.if-room-len.false)

pub overflow_cast-result : goal.overflow_cast-result
overflow_cast-result c =
    let p = not_refused c.args.store.now c.args.key.now c.args.plan c.requires.0 c.in_ok-plan.was in
    omega (arith, p.few)

pub returns : goal.returns
returns c =
    let p = not_refused c.args.store.now c.args.key.now c.args.plan c.requires.0 c.in_ok-plan.was in
    with_room c.args.room.now p.proof p.says p.long _ c.if-room-len.false c.write.auto.part c.write.ensures
