-- `palette_near::follow_all` meets its contract: each guess that is kept leads. Assumes nothing.
use mathlib.Core.Path.{◌≡◌}
use Rattle.layout.specs.Stores.{store_of}
use Rattle.read_near.specs.Near.{Led}
use Rattle.palette_near.proofs.follow_all.Given as goal

abbrev pub invariant-loop-key : goal.invariant-loop-key
invariant-loop-key l = Led (store_of l.store) l.index l.kids × (l.key-iterator.size ≡ 32)
