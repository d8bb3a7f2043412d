-- `check_parents::parents_right` meets its contract: slot by slot, what is left of both scans. Assumes nothing.
use Rattle.check_parents.proofs.Summing.{sum_start, sum_end}
use Rattle.check_parents.proofs.parents_right.Goals as goal

pub loop-j-init : goal.loop-j-init
loop-j-init c = sum_start c.args.store.now c.args.below c.requires.0.size c.slot_count-n.ensures

pub returns : goal.returns
returns c = sum_end c.loop-j.invariant c.loop-j-test.false c.args.life
