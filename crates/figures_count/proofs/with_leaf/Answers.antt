-- `figures_count::with_leaf` meets its contract: three numbers grow. Assumes nothing.
use Rattle.figures_count.proofs.Slots.{leaf_added}
use Rattle.figures_count.proofs.with_leaf.Goals as goal

pub returns : goal.returns
returns c = let a = c.args in leaf_added a.f a.steps c.longer.ensures
