-- `order_guess::in_form` is safe and ends. Assumes nothing.
use Prim.Native.Nat.{◌≤◌}
use Rattle.order_guess.proofs.in_form.Given as goal

abbrev pub invariant-loop-k : goal.invariant-loop-k
invariant-loop-k l = l.kept ≤ l.k
