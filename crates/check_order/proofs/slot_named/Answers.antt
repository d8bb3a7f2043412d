-- `check_order::slot_named` meets its contract: a slot of version 0 holds no record. Assumes nothing.
use lib.ListN.{length}
use Rattle.store.proofs.Slots.{slot_within}
use Rattle.check_order.proofs.Keys.{no_version}
use Rattle.check_order.proofs.slot_named.Goals as goal

pub version_at-requires : goal.version_at-requires
version_at-requires c = slot_within c.requires

pub returns-then-version_at-eq0 : goal.returns-then-version_at-eq0
returns-then-version_at-eq0 c =
    no_version c.args.store.now c.args.i c.args.order.now (length c.args.order.now) c.requires
    c.version_at.ensures c.if-version_at-eq0.true
