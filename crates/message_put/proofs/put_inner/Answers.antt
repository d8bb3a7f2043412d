-- `message_put::put_inner` meets its contract: the head, then the sibling. Assumes nothing.
use Rattle.terms.specs.Fields.{slice}
use Rattle.message_put.proofs.Parts.{puts_two, room_first, room_second, inner_parts}
use Rattle.message_put.proofs.put_inner.Goals as goal

pub put_inner_head-start-requires : goal.put_inner_head-start-requires
put_inner_head-start-requires c = room_first (slice 1 32 c.args.step.now) (inner_parts c.args.step.now c.requires.0) c.requires.1

pub put_bytes-requires : goal.put_bytes-requires
unfolding slice
put_bytes-requires c = room_second c.put_inner_head-start.ensures (inner_parts c.args.step.now c.requires.0) c.requires.1

pub returns : goal.returns
unfolding slice
returns c = puts_two c.put_inner_head-start.ensures c.put_bytes.ensures (inner_parts c.args.step.now c.requires.0) c.requires.1
