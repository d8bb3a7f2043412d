-- `apply_grow::grow` meets its contract: each side grows on its run, and a new inner node stands above them. The bits that are left fall.
-- Assumes nothing.
use mathlib.Core.Path.{sym, subst}
use mathlib.Core.Bool.{true, false}
use native.Mathlib.Omega.{arith}
use Rattle.batch.proofs.Runs.{run_at}
use Rattle.apply_place.proofs.Changing.{changed_stored}
use Rattle.apply_outcome.specs.Outcomes.{Did}
use Rattle.apply_grow.proofs.Growing.{few_is, none_did, one_did, several_short, side_grows, sides_fork, several_did}
use Rattle.apply_grow.proofs.+grow.Goals as goal

pub stays_at-here-requires : goal.stays_at-here-requires
stays_at-here-requires t c = c.requires.proper

pub left-requires : goal.left-requires
left-requires t c = (c.requires.proper, several_short c.requires (few_is c.requires c.stays_at-here.result c.stays_at-here.ensures c.in-Several.is c.to_grow-grants.ensures))

pub left_run-requires : goal.left_run-requires
left_run-requires t c = run_at c.args.place c.args.run.now c.requires.proper (several_short c.requires (few_is c.requires c.stays_at-here.result c.stays_at-here.ensures c.in-Several.is c.to_grow-grants.ensures)) c.requires.run

pub grow-l-requires : goal.grow-l-requires
grow-l-requires t c =
    let w = c.requires in
    let h = several_short w (few_is w c.stays_at-here.result c.stays_at-here.ensures c.in-Several.is c.to_grow-grants.ensures) in
    let g = c.left.ensures in
    (omega (arith, h, g.count), side_grows w false h g c.left_run.ensures w.stored w.starts)

pub right-requires : goal.right-requires
right-requires t c = (c.requires.proper, several_short c.requires (few_is c.requires c.stays_at-here.result c.stays_at-here.ensures c.in-Several.is c.to_grow-grants.ensures))

pub right_run-requires : goal.right_run-requires
right_run-requires t c = run_at c.args.place c.args.run.now c.requires.proper (several_short c.requires (few_is c.requires c.stays_at-here.result c.stays_at-here.ensures c.in-Several.is c.to_grow-grants.ensures)) c.requires.run

pub grow-r-requires : goal.grow-r-requires
grow-r-requires t c =
    let w = c.requires in
    let h = several_short w (few_is w c.stays_at-here.result c.stays_at-here.ensures c.in-Several.is c.to_grow-grants.ensures) in
    let g = c.right.ensures in
    (omega (arith, h, g.count), side_grows w true h g c.right_run.ensures (changed_stored c.grow-l.ensures.bytes) c.grow-l.ensures.reach.starts)

pub fork-requires : goal.fork-requires
fork-requires t c =
    let w = c.requires in
    let h = several_short w (few_is w c.stays_at-here.result c.stays_at-here.ensures c.in-Several.is c.to_grow-grants.ensures) in
    sides_fork w (omega (arith, c.ranges.new.fits)) h c.left.ensures c.right.ensures c.left_run.ensures c.right_run.ensures c.grow-l.ensures c.grow-r.ensures c.child_of-none.ensures

pub returns-in-Nothing : goal.returns-in-Nothing
returns-in-Nothing t c =
    let f = few_is c.requires c.stays_at-here.result c.stays_at-here.ensures c.in-Nothing.is c.to_grow-grants.ensures in
    subst (Did c.args.new c.args.writes c.args.from c.args.store.now c.args.store.now _) (sym c.none_grown.ensures) (none_did c.requires f)

pub returns-in-One : goal.returns-in-One
returns-in-One t c =
    let f = few_is c.requires c.stays_at-here.result c.stays_at-here.ensures c.in-One.is c.to_grow-grants.ensures in
    subst (Did c.args.new c.args.writes c.args.from c.args.store.now c.args.store.now _) (sym c.leaf_grown.ensures) (one_did c.requires f)

pub returns-in-Several : goal.returns-in-Several
returns-in-Several t c =
    let w = c.requires in
    let f = few_is w c.stays_at-here.result c.stays_at-here.ensures c.in-Several.is c.to_grow-grants.ensures in
    several_did w (omega (arith, c.ranges.new.fits)) (several_short w f) c.left.ensures c.right.ensures c.left_run.ensures c.right_run.ensures c.grow-l.ensures c.grow-r.ensures f c.fork.ensures
