-- `message_put::put_field` meets its contract: the head, then the bytes. Assumes nothing.
use Rattle.message_put.proofs.Parts.{puts_two, room_first, room_second, field_parts}
use Rattle.message_put.proofs.put_field.Goals as goal

pub put_head-start-requires : goal.put_head-start-requires
put_head-start-requires c = let a = c.args in (c.requires.0, room_first a.x.now (field_parts a.n a.x.now c.requires.0.0) c.requires.1)

pub put_bytes-requires : goal.put_bytes-requires
put_bytes-requires c = let a = c.args in room_second c.put_head-start.ensures (field_parts a.n a.x.now c.requires.0.0) c.requires.1

pub returns : goal.returns
returns c = let a = c.args in puts_two c.put_head-start.ensures c.put_bytes.ensures (field_parts a.n a.x.now c.requires.0.0) c.requires.1
