-- `figures_block::figures_in` meets its contract: the listed slots one by one. Assumes nothing.
use Rattle.figures_block.proofs.Splitting.{Adding}
use Rattle.figures_block.proofs.figures_in.Given as goal

abbrev pub invariant-loop-j : goal.invariant-loop-j
invariant-loop-j l = Adding l.store l.list l.version l.fn.block.first l.fn.block.last l.fn.block.listed l.fn.block.all l.f l.j
