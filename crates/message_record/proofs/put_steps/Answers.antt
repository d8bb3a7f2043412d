-- `message_record::put_steps` meets its contract: a step a turn. Assumes nothing.
use Rattle.terms.specs.Fields.{slice}
use Rattle.message_fields.proofs.Fields.{stands_as}
use Rattle.message_record.proofs.Stepping.{stepping_start, field_there, next_step, stepping_next, stepping_length, stepping_done}
use native.Mathlib.Omega.{arith}
use Rattle.message_record.proofs.put_steps.Goals as goal

pub loop-i-init : goal.loop-i-init
loop-i-init c = stepping_start c.args.x.now c.args.path c.args.at c.args.room.now c.requires.0

pub field-requires : goal.field-requires
field-requires c = (c.loop-i.invariant.walked.within, omega arith)

pub unwrap-part-requires : goal.unwrap-part-requires
unwrap-part-requires c = field_there c.loop-i.invariant.walked c.requires.1 c.loop-i-test.true c.field.result c.field.ensures

pub slice_bounds-put_step-count : goal.slice_bounds-put_step-count
slice_bounds-put_step-count c = omega (arith, (c.field.ensures.inside c.unwrap-part.result c.unwrap-part.ensures).1)

pub slice_bounds-put_step-start : goal.slice_bounds-put_step-start
slice_bounds-put_step-start c = let i = c.field.ensures.inside c.unwrap-part.result c.unwrap-part.ensures in omega (arith, i.1, i.2)

pub slice_bounds-put_step-end : goal.slice_bounds-put_step-end
slice_bounds-put_step-end c = omega (arith, (c.field.ensures.inside c.unwrap-part.result c.unwrap-part.ensures).2)

pub put_step-requires : goal.put_step-requires
unfolding slice
put_step-requires c =
    let n = next_step c.loop-i.invariant.walked c.requires.1 c.loop-i-test.true (stands_as c.unwrap-part.ensures c.field.ensures) in
    (n.one, omega (arith, stepping_length c.loop-i.invariant c.loop-i.auto.i-end c.requires.2, c.requires.2))

pub loop-i-preserved : goal.loop-i-preserved
unfolding slice
loop-i-preserved c =
    let n = next_step c.loop-i.invariant.walked c.requires.1 c.loop-i-test.true (stands_as c.unwrap-part.ensures c.field.ensures) in
    stepping_next c.loop-i.invariant c.requires.1 c.loop-i-test.true c.requires.2 (stands_as c.unwrap-part.ensures c.field.ensures) n c.put_step.ensures

pub shape_of-room : goal.shape_of-room
shape_of-room c = stepping_length c.loop-i.invariant c.loop-i.auto.i-end c.requires.2

pub returns : goal.returns
returns c = stepping_done c.loop-i.invariant c.requires.1 (omega (arith, c.loop-i.auto.i-end))
