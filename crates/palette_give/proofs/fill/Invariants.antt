-- `palette_give::fill` meets its contract: a proof a turn, each after the one before. Assumes nothing.
use mathlib.Core.Path.{◌≡◌}
use lib.ListN.{length}
use Rattle.palette_give.specs.Together.{planned_for}
use Rattle.palette_give.proofs.Filling.{Filling}
use Rattle.palette_give.proofs.fill.Given as goal

abbrev pub invariant-loop-key : goal.invariant-loop-key
invariant-loop-key l =
    (l.key-iterator.size ≡ 32)
    × Filling (planned_for l.store l.index l.version) l.keys (length l.initial.part) l.part l.start l.key-iterator.rest.now
