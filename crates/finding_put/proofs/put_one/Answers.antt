-- `finding_put::put_one` meets its contract: a byte, a message and zeros fill 131 bytes. Assumes nothing.
use native.Mathlib.Omega.{arith}
use mathlib.Core.Path.{◌∙◌}
use lib.ListN.{length-set}
use Rattle.finding_put.proofs.Filling.{part_one_long, part_two_long, after_one_room, after_two_long, one_put}
use Rattle.finding_put.proofs.put_one.Goals as goal

pub slice_bounds-put_message-end : goal.slice_bounds-put_message-end
slice_bounds-put_message-end c = simp length-set (omega arith)

pub slice_bounds-clear-end : goal.slice_bounds-clear-end
slice_bounds-clear-end c =
    let f = c.args.answer.now in
    after_one_room 65 65 c.args.kind f c.requires c.put_message.new.part (c.put_message.auto.part ∙ part_one_long 65 65 c.args.kind f c.requires)

pub shape_of-answer : goal.shape_of-answer
shape_of-answer c =
    let f = c.args.answer.now in
    let y = c.put_message.new.part in
    let long = c.put_message.auto.part ∙ part_one_long 65 65 c.args.kind f c.requires in
    after_two_long 65 65 c.args.kind f c.requires y c.clear.new.s long (c.clear.auto.s ∙ part_two_long 65 65 c.args.kind f c.requires y long)

pub returns : goal.returns
returns c = one_put c.args.kind c.args.m c.args.answer.now c.put_message.new.part c.clear.new.s c.requires c.put_message.ensures c.clear.ensures
