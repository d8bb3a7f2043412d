-- `check_order::named` meets its contract: the slots before i are named. Assumes nothing.
use lib.ListN.{length}
use Rattle.check_pass.proofs.Walks.{Walk}
use Rattle.check_order.specs.Order.{NamedAt}
use Rattle.check_order.proofs.named.Given as goal

abbrev pub invariant-loop-i : goal.invariant-loop-i
invariant-loop-i l = Walk l.form l.store (NamedAt l.form l.store l.order (length l.order)) l.n l.i
