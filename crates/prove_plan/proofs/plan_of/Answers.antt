-- `prove_plan::plan_of` meets its contract, by where the walk ends. Assumes nothing.
use Rattle.prove_plan.proofs.Ending.{ends_stopped, ends_at_leaf, ends_at_gap}
use Rattle.prove_plan.proofs.plan_of.Goals as goal

pub returns-in-Stopped : goal.returns-in-Stopped
returns-in-Stopped c =
    let a = c.args in
    ends_stopped a.store.now a.index.now a.version a.key.now c.walk-walked.result c.walk-walked.ensures _ _ c.in-Stopped.is
    c.refusal-refused.ensures c.at_end.ensures

pub returns-in-Leaf : goal.returns-in-Leaf
returns-in-Leaf c =
    let a = c.args in
    ends_at_leaf a.store.now a.index.now a.version a.key.now c.walk-walked.result c.walk-walked.ensures _ c.in-Leaf.is c.at_leaf.ensures

pub returns-in_default : goal.returns-in_default
returns-in_default c =
    let a = c.args in
    ends_at_gap a.store.now a.index.now a.version a.key.now c.walk-walked.result c.walk-walked.ensures c.in_default.in_default-own.keys3 c.absent.ensures
