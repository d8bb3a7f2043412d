-- `figures_write::write_each` meets its contract: a version a turn, each after the one before, from a block that has it. Assumes nothing.
use mathlib.Core.Path.{◌≡◌}
use lib.ListN.{length}
use Rattle.figures_block.specs.Block.{Right}
use Rattle.figures_write.proofs.Writing.{Writing}
use Rattle.figures_write.proofs.write_each.Given as goal

abbrev pub invariant-loop-i : goal.invariant-loop-i
invariant-loop-i l = Writing l.first l.last l.store l.initial.part l.part l.n l.records l.i × Right l.store l.list l.block × (length l.list ≡ 16384)
