-- `message_lent::path_size` meets its contract: a step a turn. Assumes nothing.
use Rattle.proofrecords.proofs.Forms.{presence_whole}
use Rattle.message_lent.proofs.Lengths.{sizing_start, sizing_next, sizing_done, few_steps, count_read}
use native.Mathlib.Omega.{arith}
use Rattle.message_lent.proofs.path_size.Goals as goal

pub get_u16-n-requires : goal.get_u16-n-requires
get_u16-n-requires c = omega (arith, presence_whole c.args.p.now c.requires)

pub loop-i-init : goal.loop-i-init
loop-i-init c = sizing_start _ _

pub bounds-p-at : goal.bounds-p-at
bounds-p-at c = omega (arith, presence_whole c.args.p.now c.requires, count_read c.args.p.now c.get_u16-n.result c.get_u16-n.ensures)

pub overflow_add-size : goal.overflow_add-size
overflow_add-size c = omega (arith, c.loop-i.invariant.few, c.loop-i.invariant.within, c.step_size-size.ensures.1)

pub loop-i-preserved : goal.loop-i-preserved
loop-i-preserved c = sizing_next c.loop-i.invariant c.loop-i-test.true (omega (arith, presence_whole c.args.p.now c.requires, count_read c.args.p.now c.get_u16-n.result c.get_u16-n.ensures)) c.step_size-size.ensures.0

pub returns : goal.returns
returns c =
    let e = count_read c.args.p.now c.get_u16-n.result c.get_u16-n.ensures in
    sizing_done c.loop-i.invariant c.loop-i-test.false (omega (arith, few_steps c.args.p.now c.requires)) e
