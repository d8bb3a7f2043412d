-- `check_order::ascending` meets its contract: the entries before k follow each other. Assumes nothing.
use Prim.Native.Nat.{◌≤◌}
use Rattle.check_order.specs.Order.{InOrder}
use Rattle.check_order.proofs.ascending.Given as goal

abbrev pub invariant-loop-k : goal.invariant-loop-k
invariant-loop-k l = (1 ≤ l.k) × InOrder l.form l.latest l.store l.order l.k
