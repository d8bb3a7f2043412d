-- `check_guess::guessed` is safe and ends. Assumes nothing.
use Prim.Native.Nat.{◌≤◌}
use lib.ListN.{length}
use Rattle.check_guess.proofs.guessed.Given as goal

abbrev pub invariant-loop-i : goal.invariant-loop-i
invariant-loop-i l = (l.left ≤ length l.order) × (l.right ≤ length l.order)
