-- `nodehash_eight::second_blocks` meets its contract. Each second block is that of its own message. Assumes nothing.
use Prim.Native.Nat.{◌≤◌, ◌-◌}
use mathlib.Core.Path.{◌≡◌}
use lib.ListN.{length}
use Rattle.nodehash_eight.specs.Eight.{SecondBlocks}
use Rattle.nodehash_eight.proofs.second_blocks.Given as goal

abbrev pub invariant-loop-l : goal.invariant-loop-l
invariant-loop-l l = (l.l ≤ 8) × (length l.r ≡ 136) × SecondBlocks l.x l.l l.r

abbrev pub decreases-loop-l : goal.decreases-loop-l
decreases-loop-l l = 8 - l.l
