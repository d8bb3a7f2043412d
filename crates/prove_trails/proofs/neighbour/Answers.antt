-- `prove_trails::neighbour` meets its contract: the leaf at the end of the walk, or from the fork. Assumes nothing.
use Rattle.prove_trails.proofs.Searches.{fork_within, end_elsewhere, end_beyond, end_before, leaf_fits_lem}
use borrow.Enum.Refused.{opened}
use Rattle.prove_trails.proofs.neighbour.Goals as goal

pub from_fork-requires : goal.from_fork-requires
from_fork-requires c = let f = fork_within _ c.args.walked c.args.side c.requires.0 c.fork_towards-fork.ensures in (f.0, f.1, c.requires.1)

pub returns-in_default : goal.returns-in_default
returns-in_default c =
    let a = c.args in
    end_elsewhere a.store.now a.index.now a.key.now a.walked a.side (opened c.in_default.in_default-own.keys2) c.fork_towards-fork.ensures c.from_fork.ensures

pub slot_of-requires : goal.slot_of-requires
slot_of-requires c = leaf_fits_lem c.args.store.now c.args.walked.trail _ c.requires.0.trail c.in-Leaf.is

pub returns-then-beyond : goal.returns-then-beyond
returns-then-beyond c =
    let a = c.args in
    end_beyond a.store.now a.index.now a.key.now a.walked a.side _ c.in-Leaf.is c.slot_of.ensures.0 c.key_of.ensures.0 c.beyond.ensures c.if-beyond.true c.requires.0.trail c.answer.ensures

pub from_fork-requires-2 : goal.from_fork-requires-2
from_fork-requires-2 c = let f = fork_within _ c.args.walked c.args.side c.requires.0 c.fork_towards-fork.ensures in (f.0, f.1, c.requires.1)

pub returns : goal.returns
returns c =
    let a = c.args in
    end_before a.store.now a.index.now a.key.now a.walked a.side _ c.in-Leaf.is c.slot_of.ensures.0 c.key_of.ensures.0 c.beyond.ensures c.if-beyond.false c.fork_towards-fork.ensures c.from_fork-2.ensures
