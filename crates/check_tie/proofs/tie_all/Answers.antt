-- `check_tie::tie_all` meets its contract slot by slot. Assumes nothing.
use mathlib.Core.Bool.{not}
use mathlib.Core.Path.{ap}
use Rattle.check_pass.proofs.Passes.{passed_so}
use Rattle.check_tie.proofs.Loops.{go_start, go_next}
use Rattle.check_tie.proofs.tie_all.Goals as goal

pub loop-j-init : goal.loop-j-init
loop-j-init c =
    go_start c.args.store.now c.args.sums.now c.args.known.now c.requires.0.keeps.size c.slot_count-n.ensures
    c.requires.1

pub loop-j-preserved : goal.loop-j-preserved
loop-j-preserved c =
    go_next c.loop-j.invariant c.loop-j-test.true c.tie_slot.new.sums
    c.tie_slot.new.known c.tie_slot.ensures.known
    (passed_so c.tie_slot.result (ap not c.if-not-tie_slot.false) c.tie_slot.ensures.passed)
