-- `apply_step::at_child`, `at_inner` and `at_node` meet their contracts: each is the step of the definition, by the steps below it. Assumes nothing.
use Prim.Native.Nat.{◌-◌}
use native.Mathlib.Omega.{arith}
use mathlib.Core.Path.{refl, sym, ◌∙◌}
use mathlib.Core.Bool.{true, false, true≢false}
use Rattle.batch.proofs.Runs.{run_at}
use Rattle.apply_tip.proofs.Stepping.{is_once, child_stays, child_steps}
use Rattle.apply_step.proofs.Stepping.{is_short, left_here, right_here, may_settle, inner_did, found_used, at_tip_here, goes_on, went_on, did_when, tip_when, settles_when}
use Rattle.apply_step.proofs.+at_child_at_inner_at_node.Goals as goal

pub at_child-unchanged_at-requires : goal.at_child-unchanged_at-requires
at_child-unchanged_at-requires t c = (c.requires.standing, is_once c.requires)

pub at_child-returns-then-run-eq0 : goal.at_child-returns-then-run-eq0
at_child-returns-then-run-eq0 t c = child_stays c.requires c.if-run-eq0.true c.unchanged_at.ensures

pub at_child-at_node-requires : goal.at_child-at_node-requires
at_child-at_node-requires t c = (omega (arith), c.requires)

pub at_child-returns : goal.at_child-returns
at_child-returns t c = child_steps c.requires c.at_node.ensures

pub at_inner-left-requires : goal.at_inner-left-requires
at_inner-left-requires t c = (c.requires.here.standing.proper, is_short c.requires)

pub at_inner-left_run-requires : goal.at_inner-left_run-requires
at_inner-left_run-requires t c = run_at c.args.place c.args.run.now c.requires.here.standing.proper (is_short c.requires) c.requires.here.run

pub at_inner-at_child-l-requires : goal.at_inner-at_child-l-requires
at_inner-at_child-l-requires t c = (omega (arith, is_short c.requires, c.left.ensures.count), left_here c.requires c.left.ensures c.left_run.ensures)

pub at_inner-right-requires : goal.at_inner-right-requires
at_inner-right-requires t c = (c.requires.here.standing.proper, is_short c.requires)

pub at_inner-right_run-requires : goal.at_inner-right_run-requires
at_inner-right_run-requires t c = run_at c.args.place c.args.run.now c.requires.here.standing.proper (is_short c.requires) c.requires.here.run

pub at_inner-at_child-r-requires : goal.at_inner-at_child-r-requires
at_inner-at_child-r-requires t c = (omega (arith, is_short c.requires, c.right.ensures.count), right_here c.requires c.left.ensures c.left_run.ensures c.at_child-l.ensures c.right.ensures c.right_run.ensures)

pub at_inner-settle_in-requires : goal.at_inner-settle_in-requires
at_inner-settle_in-requires t c = settles_when c.args.writes true c.if-writes.true (may_settle c.requires c.left.ensures c.left_run.ensures c.at_child-l.ensures c.right.ensures c.right_run.ensures c.at_child-r.ensures (λ e. refl) (omega (arith, c.ranges.new.fits)))

pub at_inner-returns-then-writes : goal.at_inner-returns-then-writes
at_inner-returns-then-writes t c = inner_did c.requires c.left.ensures c.left_run.ensures c.at_child-l.ensures c.right.ensures c.right_run.ensures c.at_child-r.ensures true c.if-writes.true c.settle_in.ensures

pub at_inner-settle_in-requires-2 : goal.at_inner-settle_in-requires-2
at_inner-settle_in-requires-2 t c = settles_when c.args.writes false c.if-writes.false (may_settle c.requires c.left.ensures c.left_run.ensures c.at_child-l.ensures c.right.ensures c.right_run.ensures c.at_child-r.ensures (λ e. absurd (true≢false (sym e ∙ c.if-writes.false))) (omega (arith, c.ranges.new.fits)))

pub at_inner-returns : goal.at_inner-returns
at_inner-returns t c = inner_did c.requires c.left.ensures c.left_run.ensures c.at_child-l.ensures c.right.ensures c.right_run.ensures c.at_child-r.ensures false c.if-writes.false c.settle_in-2.ensures

pub at_node-find_near-found-requires : goal.at_node-find_near-found-requires
at_node-find_near-found-requires t c = is_once c.requires

pub at_node-onward_from-onward-requires : goal.at_node-onward_from-onward-requires
at_node-onward_from-onward-requires t c = found_used c.requires c.find_near-found.result c.find_near-found.ensures

pub at_node-at_tip-requires : goal.at_node-at_tip-requires
at_node-at_tip-requires t c = tip_when c.args.writes true c.if-writes.true (at_tip_here c.requires c.find_near-found.result c.find_near-found.ensures c.in_default.is c.onward_from-onward.ensures)

pub at_node-returns-then-writes : goal.at_node-returns-then-writes
at_node-returns-then-writes t c = did_when c.args.writes true c.if-writes.true c.at_tip.ensures

pub at_node-at_tip-requires-in_default : goal.at_node-at_tip-requires-in_default
at_node-at_tip-requires-in_default t c = tip_when c.args.writes false c.if-writes.false (at_tip_here c.requires c.find_near-found.result c.find_near-found.ensures c.in_default.is c.onward_from-onward.ensures)

pub at_node-returns-in_default : goal.at_node-returns-in_default
at_node-returns-in_default t c = did_when c.args.writes false c.if-writes.false c.at_tip-in_default.ensures

pub at_node-at_inner-requires : goal.at_node-at_inner-requires
at_node-at_inner-requires t c = (omega (arith), goes_on c.requires c.find_near-found.result c.find_near-found.ensures c.in-Inner.is c.onward_from-onward.ensures)

pub at_node-returns : goal.at_node-returns
at_node-returns t c = went_on c.requires c.find_near-found.result c.find_near-found.ensures c.in-Inner.is c.onward_from-onward.ensures c.at_inner.ensures
