-- `prove_trails::start` meets its contract: the walk starts at the root, with no node passed. Assumes nothing.
use mathlib.Core.Path.{refl}
use Rattle.prove_trails.proofs.Trails.{started}
use Rattle.prove_trails.proofs.start.Goals as goal

pub returns : goal.returns
returns c = started c.args.store.now c.args.index.now c.args.version _ _ _ c.requires refl c.top-place.ensures c.root-seen.ensures
