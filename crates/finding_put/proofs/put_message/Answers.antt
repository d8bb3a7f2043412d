-- `finding_c::put_message` meets its contract: the kind and two hashes fill 65 bytes. Assumes nothing.
use native.Mathlib.Omega.{arith}
use mathlib.Core.Path.{ap, sym, ◌∙◌}
use lib.ListN.{length, length-set}
use Rattle.finding_put.proofs.Filling.{part_one_long, after_one_room, message_put, message_65}
use Rattle.finding_put.proofs.put_message.Goals as goal

pub slice_bounds-put_hash-end : goal.slice_bounds-put_hash-end
slice_bounds-put_hash-end c = simp length-set (omega arith)

pub slice_bounds-put_hash-end-2 : goal.slice_bounds-put_hash-end-2
slice_bounds-put_hash-end-2 c =
    let f = c.args.part.now in
    after_one_room 32 32 c.first_byte.result f c.requires c.put_hash.new.s (c.put_hash.auto.s ∙ part_one_long 32 32 c.first_byte.result f c.requires)

pub shape_of-part : goal.shape_of-part
shape_of-part c =
    ap length (message_put c.args.m c.first_byte.result c.args.part.now c.put_hash.new.s c.put_hash-2.new.s c.requires c.first_byte.ensures c.put_hash.ensures c.put_hash-2.ensures)
    ∙ message_65 c.args.m ∙ sym c.requires

pub returns : goal.returns
returns c = message_put c.args.m c.first_byte.result c.args.part.now c.put_hash.new.s c.put_hash-2.new.s c.requires c.first_byte.ensures c.put_hash.ensures c.put_hash-2.ensures
