-- `rescue_count::count` meets its contract: the slots from i on are counted. Assumes nothing.
use mathlib.Core.Path.{refl}
use Rattle.rescue_count.proofs.Counting.{counted_start, counted_slot, counted_next, counted_end}
use Rattle.rescue_count.proofs.count.Goals as goal

pub slot_count-i-requires : goal.slot_count-i-requires
slot_count-i-requires c = c.requires.size

pub loop-i-init : goal.loop-i-init
loop-i-init c = counted_start c.requires c.slot_count-i.ensures _ refl refl refl

pub count_slot-c-requires : goal.count_slot-c-requires
count_slot-c-requires c = counted_slot c.loop-i.invariant c.loop-i-test.true

pub loop-i-preserved : goal.loop-i-preserved
loop-i-preserved c = counted_next c.loop-i.invariant c.loop-i-test.true c.count_slot-c.result c.count_slot-c.ensures

pub returns : goal.returns
returns c = counted_end c.loop-i.invariant c.loop-i-test.false
