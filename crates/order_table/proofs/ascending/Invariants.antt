-- `order_table::ascending` meets its contract: the entries before k are in order. Assumes nothing.
use Prim.Native.Nat.{◌≤◌}
use lib.ListN.{length}
use Rattle.order_table.specs.Tables.{InOrder}
use Rattle.order_table.proofs.ascending.Given as goal

abbrev pub invariant-loop-k : goal.invariant-loop-k
invariant-loop-k l = (l.k ≤ length l.order) × InOrder l.store l.order l.k
