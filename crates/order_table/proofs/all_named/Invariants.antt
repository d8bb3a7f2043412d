-- `order_table::all_named` meets its contract: the slots before i are named. Assumes nothing.
use lib.ListN.{length}
use Rattle.terms.specs.declared.Form.TheVariants.{Counted as counted}
use Rattle.check_pass.proofs.Walks.{Walk}
use Rattle.order_table.specs.Tables.{NamedNo}
use Rattle.order_table.proofs.all_named.Given as goal

abbrev pub invariant-loop-i : goal.invariant-loop-i
invariant-loop-i l = Walk counted l.store (NamedNo l.store l.order (length l.order)) l.n l.i
