-- `order_table::follows` meets its contract. Assumes nothing.
use mathlib.Core.Bool.{not}
use mathlib.Core.Path.{ap, subst}
use Rattle.layout.specs.Stores.{store_of}
use Rattle.check_pass.proofs.Passes.{passed_so, pass_map}
use Rattle.ordered.specs.Ordered.{Ahead}
use Rattle.order_table.proofs.Passed.{order_next}
use Rattle.order_table.proofs.follows.Goals as goal

pub returns : goal.returns
returns c =
    let a = c.args in
    pass_map c.ahead.result
    (λ up. order_next a.store.now a.order.now a.k c.requires.2 c.wide-i.ensures.0
    (passed_so c.names_form.result (ap not c.if-not-names_form.false) c.names_form.ensures)
    (λ h. subst (λ z. Ahead (store_of a.store.now).slots z c.wide-i.result) c.wide.ensures.0 up))
    c.ahead.ensures
