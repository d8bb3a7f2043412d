-- `nodehash_eight::starts` meets its contract. Lane by lane. Assumes nothing.
use Prim.Native.Nat.{◌≤◌, ◌-◌}
use mathlib.Core.Path.{◌≡◌}
use lib.ListN.{length}
use Rattle.nodehash_eight.specs.Eight.{Starts}
use Rattle.nodehash_eight.proofs.starts.Given as goal

abbrev pub invariant-loop-l : goal.invariant-loop-l
invariant-loop-l l = (l.l ≤ 8) × (length l.r ≡ 64) × Starts l.l l.r

abbrev pub decreases-loop-l : goal.decreases-loop-l
decreases-loop-l l = 8 - l.l
