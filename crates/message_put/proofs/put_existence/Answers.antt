-- `message_put::put_existence` meets its contract: key, value, leaf op, path. Assumes nothing.
use mathlib.Core.Path.{refl}
use Rattle.proofrecords.specs.ProofBytes.{presence_in}
use mathlib.Core.List.{◌++◌}
use Rattle.messages.specs.Wire.{message_field}
use Rattle.messages.specs.Raws.{leaf_op, path}
use Rattle.message_put.proofs.Parts.{room_first, room_second, existence_parts, puts_four, room_third, room_fourth}
use native.Mathlib.Omega.{arith}
use Rattle.message_put.proofs.put_existence.Goals as goal

pub put_field-after_key-requires : goal.put_field-after_key-requires
put_field-after_key-requires c =
    let a = c.args in
    let l = c.requires.0.1 in
    ((omega arith, omega (arith, l.key_short)), room_first (message_field 2 a.value.now ++ (message_field 3 leaf_op ++ path (presence_in a.p.now).steps)) (existence_parts a.key.now a.value.now (presence_in a.p.now) l) c.requires.1)

pub put_field-after_value-requires : goal.put_field-after_value-requires
put_field-after_value-requires c =
    let a = c.args in
    let l = c.requires.0.1 in
    ((omega arith, omega (arith, l.value_short)), room_first (message_field 3 leaf_op ++ path (presence_in a.p.now).steps) refl (room_second c.put_field-after_key.ensures (existence_parts a.key.now a.value.now (presence_in a.p.now) l) c.requires.1))

pub put_leaf_op-after_leaf-requires : goal.put_leaf_op-after_leaf-requires
put_leaf_op-after_leaf-requires c =
    let a = c.args in
    let l = c.requires.0.1 in
    room_third (message_field 3 leaf_op) (path (presence_in a.p.now).steps) c.put_field-after_key.ensures c.put_field-after_value.ensures (existence_parts a.key.now a.value.now (presence_in a.p.now) l) c.requires.1

pub put_path-requires : goal.put_path-requires
put_path-requires c =
    let a = c.args in
    let l = c.requires.0.1 in
    (c.requires.0.0, room_fourth (message_field 3 leaf_op) (path (presence_in a.p.now).steps) c.put_field-after_key.ensures c.put_field-after_value.ensures (existence_parts a.key.now a.value.now (presence_in a.p.now) l) c.requires.1 c.put_leaf_op-after_leaf.ensures)

pub returns : goal.returns
returns c =
    let a = c.args in
    puts_four (message_field 3 leaf_op) (path (presence_in a.p.now).steps) c.put_field-after_key.ensures c.put_field-after_value.ensures (existence_parts a.key.now a.value.now (presence_in a.p.now) c.requires.0.1) c.requires.1 c.put_leaf_op-after_leaf.ensures c.put_path.ensures
