-- `check_ahead::messages_of` meets its contract. Lane by lane. Assumes nothing.
use mathlib.Core.Path.{◌≡◌}
use lib.ListN.{length}
use Rattle.nodehash_eight.specs.Eight.{Lanes}
use Rattle.check_ahead.specs.Ahead.{HashAt}
use Rattle.check_ahead.proofs.messages_of.Given as goal

abbrev pub invariant-loop-l : goal.invariant-loop-l
invariant-loop-l l = (length l.x ≡ 136) × Lanes l.l (HashAt l.form l.store l.slots) l.x
