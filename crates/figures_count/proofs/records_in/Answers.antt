-- `figures_count::records_in` meets its contract: the slots from i on are counted. Assumes nothing.
use native.Mathlib.Omega.{arith}
use Rattle.figures_count.proofs.Backward.{backward_slot}
use Rattle.figures_count.proofs.Records.{living_start, living_few, living_more, living_same, living_end}
use Rattle.figures_count.proofs.records_in.Goals as goal

pub slot_count-n-requires : goal.slot_count-n-requires
slot_count-n-requires c = c.requires.size

pub loop-i-init : goal.loop-i-init
loop-i-init c = living_start c.args.first c.args.last c.requires c.slot_count-n.ensures

pub lives-requires : goal.lives-requires
lives-requires c = backward_slot c.loop-i.invariant (omega arith)

pub overflow_add-records : goal.overflow_add-records
overflow_add-records c = let few = living_few c.loop-i.invariant in omega arith

pub loop-i-preserved-then-lives : goal.loop-i-preserved-then-lives
loop-i-preserved-then-lives c = living_more c.loop-i.invariant (omega arith) c.lives.ensures c.if-lives.true

pub loop-i-preserved : goal.loop-i-preserved
loop-i-preserved c = living_same c.loop-i.invariant (omega arith) c.lives.ensures c.if-lives.false

pub returns : goal.returns
returns c = living_end c.loop-i.invariant (omega arith)
