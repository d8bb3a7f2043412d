-- `order_kids::keep_all` meets its contract: each entry is looked at. Assumes nothing.
use native.Mathlib.Omega.{arith}
use Rattle.layout.specs.Stores.{store_of}
use Rattle.order_kids.proofs.Entries.{looked_next}
use Rattle.order_kids.proofs.keep_all.Goals as goal

pub loop-kid-preserved : goal.loop-kid-preserved
loop-kid-preserved c =
    let at = c.loop-kid in
    looked_next (store_of c.args.store.now).slots at.kids at.kid-index c.kept.result at.invariant c.kept.ensures
