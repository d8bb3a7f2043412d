-- `message_write::write_exist` meets its contract: the length first, then the field and the existence proof. Assumes nothing.
use Rattle.terms.specs.Records.{presence}
use Rattle.messages.specs.Message.{existence}
use Rattle.messages.specs.Lending.{raw_presence}
use Rattle.proofrecords.specs.ProofBytes.{presence_in}
use Rattle.message_lent.specs.Lent.{leaf}
use Rattle.message_put.proofs.Parts.{puts_two, room_first, room_second}
use Rattle.message_write.proofs.Fitting.{writes_no_room, writes_there, exist_total, exist_parts}
use native.Mathlib.Omega.{arith}
use Rattle.message_write.proofs.write_exist.Goals as goal

pub existence_size-size-requires : goal.existence_size-size-requires
existence_size-size-requires c = (c.requires.0, c.requires.1.key_short, c.requires.1.value_short)

pub field_size-total-requires : goal.field_size-total-requires
field_size-total-requires c = omega (arith, c.existence_size-size.ensures.1)

pub returns-then-room-total : goal.returns-then-room-total
returns-then-room-total c =
    let a = c.args in
    let e = exist_total a.key.now a.value.now (presence_in a.p.now) c.requires.1 c.existence_size-size.ensures.0 c.field_size-total.ensures.0 in
    writes_no_room (presence (raw_presence (leaf a.key.now a.value.now) (presence_in a.p.now))) a.room.now (omega (arith, e, c.if-room-total.true))

pub put_head-start-requires : goal.put_head-start-requires
put_head-start-requires c =
    let a = c.args in
    let s = c.existence_size-size.ensures in
    let e = exist_total a.key.now a.value.now (presence_in a.p.now) c.requires.1 s.0 c.field_size-total.ensures.0 in
    let w = exist_parts a.key.now a.value.now (presence_in a.p.now) c.requires.1 s.0 c.field_size-total.ensures.0 in
    ((omega arith, omega (arith, s.1)), room_first (existence (raw_presence (leaf a.key.now a.value.now) (presence_in a.p.now))) w (record { fits = omega (arith, e, c.if-room-total.false) }))

pub put_existence-requires : goal.put_existence-requires
put_existence-requires c =
    let a = c.args in
    let s = c.existence_size-size.ensures in
    let e = exist_total a.key.now a.value.now (presence_in a.p.now) c.requires.1 s.0 c.field_size-total.ensures.0 in
    let w = exist_parts a.key.now a.value.now (presence_in a.p.now) c.requires.1 s.0 c.field_size-total.ensures.0 in
    (c.requires, room_second c.put_head-start.ensures w (record { fits = omega (arith, e, c.if-room-total.false) }))

pub overflow_cast-result : goal.overflow_cast-result
overflow_cast-result c = omega (arith, c.existence_size-size.ensures.1, c.field_size-total.ensures.1)

pub returns : goal.returns
returns c =
    let a = c.args in
    let s = c.existence_size-size.ensures in
    let e = exist_total a.key.now a.value.now (presence_in a.p.now) c.requires.1 s.0 c.field_size-total.ensures.0 in
    let w = exist_parts a.key.now a.value.now (presence_in a.p.now) c.requires.1 s.0 c.field_size-total.ensures.0 in
    writes_there (presence (raw_presence (leaf a.key.now a.value.now) (presence_in a.p.now))) (omega (arith, e, c.if-room-total.false)) e (puts_two c.put_head-start.ensures c.put_existence.ensures w (record { fits = omega (arith, e, c.if-room-total.false) }))
