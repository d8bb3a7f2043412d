-- `index_fewer::moved_down` meets its contract. Assumes nothing.
use Rattle.check_pass.proofs.Records.{room_within}
use Rattle.index_fewer.proofs.moved_down.Goals as goal

pub kind_at-requires : goal.kind_at-requires
kind_at-requires c = room_within c.args.store.now c.requires.0 c.if-n-i.false
