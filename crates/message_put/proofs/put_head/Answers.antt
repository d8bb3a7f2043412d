-- `message_put::put_head` meets its contract: the tag, then the length. Assumes nothing.
use mathlib.Core.Path.{refl}
use Rattle.message_put.proofs.Parts.{puts_two, room_second}
use native.Mathlib.Omega.{arith}
use Rattle.message_put.proofs.put_head.Goals as goal

pub put_byte-start-requires : goal.put_byte-start-requires
put_byte-start-requires c = omega (arith, c.requires.1.fits)

pub put_varint-requires : goal.put_varint-requires
put_varint-requires c = (c.requires.0.1, room_second c.put_byte-start.ensures refl c.requires.1)

pub returns : goal.returns
returns c = puts_two c.put_byte-start.ensures c.put_varint.ensures refl c.requires.1
