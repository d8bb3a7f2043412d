-- `check_quick::quick_with` meets its contract: the passes together. Assumes nothing.
use native.Mathlib.Omega.{arith}
use Rattle.check_quick.proofs.Fine.{sure_map, sure_is, all_fine}
use Rattle.check_quick.proofs.quick_with.Goals as goal

pub returns-in-None : goal.returns-in-None
returns-in-None c =
    sure_map c.linked.result
    (all_fine _ c.args.store.now c.own_right-i.result (omega (arith, c.if-i-n.false, c.slot_count-n.ensures))
    c.own_right-i.ensures (sure_is c.in-None.is c.alone.ensures)) c.linked.ensures
