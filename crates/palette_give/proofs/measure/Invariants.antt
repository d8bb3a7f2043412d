-- `palette_give::measure` meets its contract: a key a turn, until one is refused or all are measured. Assumes nothing.
use mathlib.Core.Path.{◌≡◌}
use Rattle.palette_give.specs.Together.{planned_for}
use Rattle.palette_give.proofs.Passing.{Measuring}
use Rattle.palette_give.proofs.measure.Given as goal

abbrev pub invariant-loop-key : goal.invariant-loop-key
invariant-loop-key l =
    (l.key-iterator.size ≡ 32) × Measuring (planned_for l.store l.index l.version) l.keys l.total l.key-iterator.rest.now
