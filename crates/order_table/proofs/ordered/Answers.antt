-- `order_table::ordered` meets its contract: the entries ascend, and each slot in form is named. Assumes nothing.
use mathlib.Core.Bool.{not}
use mathlib.Core.Path.{ap}
use lib.ListN.{length}
use Rattle.check_pass.proofs.Passes.{passed_so, pass_map}
use Rattle.order_table.proofs.Passed.{both_passed}
use Rattle.order_table.proofs.ordered.Goals as goal

pub returns : goal.returns
returns c =
    let a = c.args in
    pass_map c.all_named.result
    (both_passed a.store.now a.order.now (length a.order.now)
    (passed_so c.ascending.result (ap not c.if-not-ascending.false) c.ascending.ensures))
    c.all_named.ensures
