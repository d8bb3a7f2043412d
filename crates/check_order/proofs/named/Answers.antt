-- `check_order::named` meets its contract: the slots before i are named. Assumes nothing.
use lib.ListN.{length}
use Rattle.check_pass.proofs.Walks.{walk_start}
use Rattle.check_order.specs.Order.{NamedAt}
use Rattle.check_order.proofs.named.Goals as goal

pub loop-i-init : goal.loop-i-init
loop-i-init c =
    walk_start c.args.store.now (NamedAt c.args.form c.args.store.now c.args.order.now (length c.args.order.now)) c.requires
    c.slot_count-n.ensures
