-- `prove_trails::from_fork` meets its contract: from the fork into its child, then down. Assumes nothing.
use native.Mathlib.Omega.{arith}
use Rattle.prove_trails.proofs.Searches.{fork_nobody, fork_at_lem, fork_found}
use Rattle.prove_trails.proofs.from_fork.Goals as goal

pub returns-in_default : goal.returns-in_default
returns-in_default c = fork_nobody c.args.store.now c.args.index.now c.args.side c.args.trail c.args.fork c.requires.0 c.in_default.is c.answer.ensures

pub bounds-slots-depth : goal.bounds-slots-depth
bounds-slots-depth c = omega (arith, (fork_at_lem c.requires.0 c.requires.1 c.in-Some.is).short)

pub further-next-requires : goal.further-next-requires
further-next-requires c = (fork_at_lem c.requires.0 c.requires.1 c.in-Some.is, c.requires.2)

pub returns : goal.returns
returns c = fork_found c.requires.0 c.requires.1 c.in-Some.is c.args.side _ c.further-next.ensures c.descend.ensures
