-- `message_write::write_nonexist` meets its contract: the length first, then key and neighbours. Assumes nothing.
use mathlib.Core.Path.{refl}
use mathlib.Core.List.{◌++◌}
use Rattle.messages.specs.Wire.{message_field}
use Rattle.messages.specs.Message.{neighbour_field}
use Rattle.messages.specs.Lending.{raw_neighbour}
use Rattle.message_lent.specs.Lent.{leaf, record_in}
use Rattle.message_put.proofs.Parts.{puts_four, room_first, room_second, room_third, room_fourth}
use Rattle.message_write.specs.Wrote.{besides}
use Rattle.message_write.proofs.Fitting.{writes_no_room, writes_there, nonexist_total, nonexist_parts}
use native.Mathlib.Omega.{arith}
use Rattle.message_write.proofs.write_nonexist.Goals as goal

pub field_size-requires : goal.field_size-requires
field_size-requires c = omega (arith, c.requires.0.1)

pub neighbour_size-requires : goal.neighbour_size-requires
neighbour_size-requires c = let l = c.requires.1.0 in (l.0, λ h. ((l.1 h).key_short, (l.1 h).value_short))

pub overflow_add-size : goal.overflow_add-size
overflow_add-size c = omega (arith, c.field_size.ensures.1, c.neighbour_size.ensures.1, c.requires.0.1)

pub neighbour_size-requires-2 : goal.neighbour_size-requires-2
neighbour_size-requires-2 c = let l = c.requires.1.1 in (l.0, λ h. ((l.1 h).key_short, (l.1 h).value_short))

pub overflow_add-size-2 : goal.overflow_add-size-2
overflow_add-size-2 c = omega (arith, c.field_size.ensures.1, c.neighbour_size.ensures.1, c.neighbour_size-2.ensures.1, c.requires.0.1)

pub field_size-whole-requires : goal.field_size-whole-requires
field_size-whole-requires c = omega (arith, c.field_size.ensures.1, c.neighbour_size.ensures.1, c.neighbour_size-2.ensures.1, c.requires.0.1)

pub returns-then-room-whole : goal.returns-then-room-whole
returns-then-room-whole c =
    let a = c.args in
    let e = nonexist_total a.asked.now c.requires.0.0 a.lkey.now a.lvalue.now a.left.now a.rkey.now a.rvalue.now a.right.now c.requires.1.0 c.requires.1.1 c.field_size.ensures.0 c.neighbour_size.ensures.0 c.neighbour_size-2.ensures.0 c.field_size-whole.ensures.0 in
    writes_no_room (besides a.asked.now (leaf a.lkey.now a.lvalue.now) (record_in a.left.now) (leaf a.rkey.now a.rvalue.now) (record_in a.right.now)) a.room.now (omega (arith, e, c.if-room-whole.true))

pub put_head-start-requires : goal.put_head-start-requires
put_head-start-requires c =
    let a = c.args in
    let e = nonexist_total a.asked.now c.requires.0.0 a.lkey.now a.lvalue.now a.left.now a.rkey.now a.rvalue.now a.right.now c.requires.1.0 c.requires.1.1 c.field_size.ensures.0 c.neighbour_size.ensures.0 c.neighbour_size-2.ensures.0 c.field_size-whole.ensures.0 in
    let w = nonexist_parts a.asked.now c.requires.0.0 a.lkey.now a.lvalue.now a.left.now a.rkey.now a.rvalue.now a.right.now c.requires.1.0 c.requires.1.1 c.field_size.ensures.0 c.neighbour_size.ensures.0 c.neighbour_size-2.ensures.0 c.field_size-whole.ensures.0 in
    ((omega arith, omega (arith, c.field_size.ensures.1, c.neighbour_size.ensures.1, c.neighbour_size-2.ensures.1, c.requires.0.1)), room_first (message_field 1 a.asked.now ++ (neighbour_field 2 (raw_neighbour (leaf a.lkey.now a.lvalue.now) (record_in a.left.now)) ++ neighbour_field 3 (raw_neighbour (leaf a.rkey.now a.rvalue.now) (record_in a.right.now)))) w (record { fits = omega (arith, e, c.if-room-whole.false) }))

pub put_field-after_key-requires : goal.put_field-after_key-requires
put_field-after_key-requires c =
    let a = c.args in
    let e = nonexist_total a.asked.now c.requires.0.0 a.lkey.now a.lvalue.now a.left.now a.rkey.now a.rvalue.now a.right.now c.requires.1.0 c.requires.1.1 c.field_size.ensures.0 c.neighbour_size.ensures.0 c.neighbour_size-2.ensures.0 c.field_size-whole.ensures.0 in
    let w = nonexist_parts a.asked.now c.requires.0.0 a.lkey.now a.lvalue.now a.left.now a.rkey.now a.rvalue.now a.right.now c.requires.1.0 c.requires.1.1 c.field_size.ensures.0 c.neighbour_size.ensures.0 c.neighbour_size-2.ensures.0 c.field_size-whole.ensures.0 in
    ((omega arith, omega (arith, c.requires.0.1)), room_first (neighbour_field 2 (raw_neighbour (leaf a.lkey.now a.lvalue.now) (record_in a.left.now)) ++ neighbour_field 3 (raw_neighbour (leaf a.rkey.now a.rvalue.now) (record_in a.right.now))) refl (room_second c.put_head-start.ensures w (record { fits = omega (arith, e, c.if-room-whole.false) })))

pub put_neighbour-after_left-requires : goal.put_neighbour-after_left-requires
put_neighbour-after_left-requires c =
    let a = c.args in
    let e = nonexist_total a.asked.now c.requires.0.0 a.lkey.now a.lvalue.now a.left.now a.rkey.now a.rvalue.now a.right.now c.requires.1.0 c.requires.1.1 c.field_size.ensures.0 c.neighbour_size.ensures.0 c.neighbour_size-2.ensures.0 c.field_size-whole.ensures.0 in
    let w = nonexist_parts a.asked.now c.requires.0.0 a.lkey.now a.lvalue.now a.left.now a.rkey.now a.rvalue.now a.right.now c.requires.1.0 c.requires.1.1 c.field_size.ensures.0 c.neighbour_size.ensures.0 c.neighbour_size-2.ensures.0 c.field_size-whole.ensures.0 in
    ((omega arith, c.requires.1.0.0, c.requires.1.0.1), room_third (neighbour_field 2 (raw_neighbour (leaf a.lkey.now a.lvalue.now) (record_in a.left.now))) (neighbour_field 3 (raw_neighbour (leaf a.rkey.now a.rvalue.now) (record_in a.right.now))) c.put_head-start.ensures c.put_field-after_key.ensures w (record { fits = omega (arith, e, c.if-room-whole.false) }))

pub put_neighbour-requires : goal.put_neighbour-requires
put_neighbour-requires c =
    let a = c.args in
    let e = nonexist_total a.asked.now c.requires.0.0 a.lkey.now a.lvalue.now a.left.now a.rkey.now a.rvalue.now a.right.now c.requires.1.0 c.requires.1.1 c.field_size.ensures.0 c.neighbour_size.ensures.0 c.neighbour_size-2.ensures.0 c.field_size-whole.ensures.0 in
    let w = nonexist_parts a.asked.now c.requires.0.0 a.lkey.now a.lvalue.now a.left.now a.rkey.now a.rvalue.now a.right.now c.requires.1.0 c.requires.1.1 c.field_size.ensures.0 c.neighbour_size.ensures.0 c.neighbour_size-2.ensures.0 c.field_size-whole.ensures.0 in
    ((omega arith, c.requires.1.1.0, c.requires.1.1.1), room_fourth (neighbour_field 2 (raw_neighbour (leaf a.lkey.now a.lvalue.now) (record_in a.left.now))) (neighbour_field 3 (raw_neighbour (leaf a.rkey.now a.rvalue.now) (record_in a.right.now))) c.put_head-start.ensures c.put_field-after_key.ensures w (record { fits = omega (arith, e, c.if-room-whole.false) }) c.put_neighbour-after_left.ensures)

pub overflow_cast-result : goal.overflow_cast-result
overflow_cast-result c = omega (arith, c.field_size.ensures.1, c.neighbour_size.ensures.1, c.neighbour_size-2.ensures.1, c.field_size-whole.ensures.1, c.requires.0.1)

pub returns : goal.returns
returns c =
    let a = c.args in
    let e = nonexist_total a.asked.now c.requires.0.0 a.lkey.now a.lvalue.now a.left.now a.rkey.now a.rvalue.now a.right.now c.requires.1.0 c.requires.1.1 c.field_size.ensures.0 c.neighbour_size.ensures.0 c.neighbour_size-2.ensures.0 c.field_size-whole.ensures.0 in
    let w = nonexist_parts a.asked.now c.requires.0.0 a.lkey.now a.lvalue.now a.left.now a.rkey.now a.rvalue.now a.right.now c.requires.1.0 c.requires.1.1 c.field_size.ensures.0 c.neighbour_size.ensures.0 c.neighbour_size-2.ensures.0 c.field_size-whole.ensures.0 in
    writes_there (besides a.asked.now (leaf a.lkey.now a.lvalue.now) (record_in a.left.now) (leaf a.rkey.now a.rvalue.now) (record_in a.right.now)) (omega (arith, e, c.if-room-whole.false)) e (puts_four (neighbour_field 2 (raw_neighbour (leaf a.lkey.now a.lvalue.now) (record_in a.left.now))) (neighbour_field 3 (raw_neighbour (leaf a.rkey.now a.rvalue.now) (record_in a.right.now))) c.put_head-start.ensures c.put_field-after_key.ensures w (record { fits = omega (arith, e, c.if-room-whole.false) }) c.put_neighbour-after_left.ensures c.put_neighbour.ensures)
