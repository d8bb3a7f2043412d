-- `order_table::all_named` meets its contract: the slots before i are named. Assumes nothing.
use mathlib.Core.Bool.{not}
use mathlib.Core.Path.{ap}
use lib.ListN.{length}
use Rattle.check_pass.proofs.Walks.{walk_start, walk_on}
use Rattle.order_table.specs.Tables.{NamedNo}
use Rattle.order_table.proofs.all_named.Goals as goal

pub loop-i-init : goal.loop-i-init
loop-i-init c =
    let a = c.args in
    walk_start a.store.now (NamedNo a.store.now a.order.now (length a.order.now)) c.requires c.slot_count-n.ensures

pub loop-i-preserved : goal.loop-i-preserved
loop-i-preserved c = walk_on c.loop-i.invariant c.loop-i-test.true c.slot_named.result (ap not c.if-not-slot_named.false) c.slot_named.ensures
