-- `check_holder::holders` meets its contract: the slots before j are counted. Assumes nothing.
use native.Mathlib.Omega.{arith}
use Rattle.place.specs.Place.{place_of}
use Rattle.check_holder.proofs.Holding.{count_start, count_few, count_next, count_end}
use Rattle.check_holder.proofs.holders.Goals as goal

pub loop-j-init : goal.loop-j-init
loop-j-init c = count_start c.args.store.now c.args.version (place_of c.args.place) c.requires.0 c.slot_count-n.ensures

pub overflow_add-count : goal.overflow_add-count
overflow_add-count c = omega (arith, count_few c.loop-j.invariant c.holder-count.ensures, c.loop-j.invariant.few, c.loop-j.invariant.scan.small)

pub loop-j-preserved : goal.loop-j-preserved
loop-j-preserved c = count_next c.loop-j.invariant c.loop-j-test.true c.holder-count.ensures

pub returns : goal.returns
returns c = count_end c.loop-j.invariant c.loop-j-test.false
