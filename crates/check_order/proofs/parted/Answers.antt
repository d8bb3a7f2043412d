-- `check_order::parted` meets its contract. Assumes nothing.
use Rattle.store.proofs.Slots.{slot_within}
use Rattle.check_order.proofs.parted.Goals as goal

pub count_at-requires : goal.count_at-requires
count_at-requires c = slot_within c.requires.1

pub retired_at-requires : goal.retired_at-requires
retired_at-requires c = slot_within c.requires.0

pub version_at-requires : goal.version_at-requires
version_at-requires c = slot_within c.requires.1
