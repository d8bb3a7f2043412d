-- `figures_count::with_inner` meets its contract: one number grows. Assumes nothing.
use Rattle.figures_count.proofs.Slots.{inner_added}
use Rattle.figures_count.proofs.with_inner.Goals as goal

pub returns : goal.returns
returns c = inner_added c.args.f
