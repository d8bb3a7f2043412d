-- `figures_block::split` meets its contract: the slots from i on are split. Assumes nothing.
use mathlib.Core.Path.{◌≡◌}
use lib.ListN.{length}
use Rattle.figures_count.proofs.Backward.{Backward}
use Rattle.figures_block.specs.Block.{Split}
use Rattle.figures_block.proofs.split.Given as goal

abbrev pub invariant-loop-i : goal.invariant-loop-i
invariant-loop-i l = Backward l.store (Split l.store l.list l.first l.last l.listed l.all) l.n l.i × (length l.list ≡ 16384)
