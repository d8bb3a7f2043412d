-- `check_own::own_right` meets its contract: the own fields of the slots before i are right. Assumes nothing.
use Rattle.layout.specs.Stores.{store_in}
use Rattle.check_seen.specs.Seen.{OwnAt}
use Rattle.check_pass.proofs.Walks.{walk_start}
use Rattle.check_own.proofs.own_right.Goals as goal

pub loop-i-init : goal.loop-i-init
loop-i-init c = walk_start c.args.store.now (OwnAt (store_in c.args.form c.args.store.now)) c.requires.size c.slot_count-n.ensures
