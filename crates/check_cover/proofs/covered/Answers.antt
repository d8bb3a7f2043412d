-- `check_cover::covered` meets its contract slot by slot. Assumes nothing.
use Rattle.check_pass.proofs.Walks.{walk_start}
use Rattle.check_cover.specs.Cover.{CoveredAt}
use Rattle.check_cover.proofs.covered.Goals as goal

pub loop-i-init : goal.loop-i-init
loop-i-init c =
    walk_start c.args.store.now (CoveredAt c.args.form c.args.store.now c.args.sums.now) c.requires.size
    c.slot_count-n.ensures
