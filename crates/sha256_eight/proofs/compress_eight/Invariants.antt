-- Each turn compresses one block and leaves the others. Assumes nothing.
use Prim.Native.Nat.{◌≤◌, ◌-◌}
use mathlib.Core.Path.{◌≡◌}
use lib.ListN.{length}
use Rattle.sha256_eight.specs.Lanes.{Compressed}
use Rattle.sha256_eight.proofs.compress_eight.Given as goal

abbrev pub invariant-loop-l : goal.invariant-loop-l
invariant-loop-l l = (l.l ≤ 8) × (length l.r ≡ 64) × Compressed l.s l.x l.l l.r

abbrev pub decreases-loop-l : goal.decreases-loop-l
decreases-loop-l l = 8 - l.l
