-- `finding_c::put_two` meets its contract: 1 and two messages fill 131 bytes. Assumes nothing.
use native.Mathlib.Omega.{arith}
use mathlib.Core.Path.{◌∙◌}
use lib.ListN.{length-set}
use Rattle.finding_put.proofs.Filling.{part_one_long, part_two_long, after_one_room, after_two_long, two_put}
use Rattle.finding_put.proofs.put_two.Goals as goal

pub slice_bounds-put_message-end : goal.slice_bounds-put_message-end
slice_bounds-put_message-end c = simp length-set (omega arith)

pub slice_bounds-put_message-end-2 : goal.slice_bounds-put_message-end-2
slice_bounds-put_message-end-2 c =
    let f = c.args.answer.now in
    after_one_room 65 65 1 f c.requires c.put_message.new.part (c.put_message.auto.part ∙ part_one_long 65 65 1 f c.requires)

pub shape_of-answer : goal.shape_of-answer
shape_of-answer c =
    let f = c.args.answer.now in
    let y = c.put_message.new.part in
    let long = c.put_message.auto.part ∙ part_one_long 65 65 1 f c.requires in
    after_two_long 65 65 1 f c.requires y c.put_message-2.new.part long (c.put_message-2.auto.part ∙ part_two_long 65 65 1 f c.requires y long)

pub returns : goal.returns
returns c = two_put c.args.node c.args.checked c.args.answer.now c.put_message.new.part c.put_message-2.new.part c.requires c.put_message.ensures c.put_message-2.ensures
