-- `check_quick::alone` meets its contract: whatever the sort gives, its order is looked at. Assumes nothing.
use Rattle.check_quick.proofs.Fine.{room_fits}
use Rattle.check_quick.proofs.alone.Goals as goal

pub sort-many-requires : goal.sort-many-requires
sort-many-requires c = (
  (record { size = c.requires.keeps.size; many = c.slot_count-n.ensures }),
  room_fits c.args.store.now
      (record { size = c.requires.keeps.size; many = c.slot_count-n.ensures }),
)
