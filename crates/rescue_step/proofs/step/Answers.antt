-- `rescue_step::step` meets its contract: the root, the trees, the floor. Assumes nothing.
use Rattle.rescue_step.proofs.Stepping.{top_right, step_rootless, step_apart, step_above, step_joins}
use Rattle.rescue_step.proofs.step.Goals as goal

pub root_version-a-requires : goal.root_version-a-requires
root_version-a-requires c = (c.requires.0, c.requires.1)

pub returns-then-a-eq0 : goal.returns-then-a-eq0
returns-then-a-eq0 c = step_rootless c.args.source.now c.args.v c.args.next c.args.b c.args.low c.root_version-a.ensures c.if-a-eq0.true

pub join-requires : goal.join-requires
join-requires c = (c.requires.0, c.top-top.ensures.proper, c.requires.1, top_right c.args.source.now c.args.b c.top-top.ensures c.requires.2)

pub returns-in_err-l : goal.returns-in_err-l
returns-in_err-l c =
    rw c.from_residual.ensures
    (step_apart c.args.source.now c.args.v c.args.next c.args.b c.args.low c.root_version-a.ensures c.if-a-eq0.false c.top-top.ensures c.join.result c.join.ensures
    c.in_err-l.was)

pub returns-then-v-higher : goal.returns-then-v-higher
returns-then-v-higher c =
    step_above c.args.source.now c.args.v c.args.next c.args.b c.args.low c.root_version-a.ensures c.if-a-eq0.false c.top-top.ensures c.join.result c.join.ensures
    c.in_ok-l.was c.later-higher.ensures c.if-v-higher.true

pub returns : goal.returns
returns c =
    step_joins c.args.source.now c.args.v c.args.next c.args.b c.args.low c.root_version-a.ensures c.if-a-eq0.false c.top-top.ensures c.join.result c.join.ensures
    c.in_ok-l.was c.later-higher.ensures c.if-v-higher.false
