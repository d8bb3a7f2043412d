-- `message_read::put_spot` meets its contract: eight bytes. Assumes nothing.
use Prim.Native.Nat.{◌-◌}
use Rattle.message_read.proofs.Spotting.{spot_put}
use Rattle.message_read.proofs.put_spot.Goals as goal

pub returns : goal.returns
returns c = spot_put c.args.at c.args.from (c.args.end - c.args.from) c.args.answer.now c.put_u32.new.s c.put_u32-2.new.s c.requires.0 c.put_u32.ensures c.put_u32-2.ensures
