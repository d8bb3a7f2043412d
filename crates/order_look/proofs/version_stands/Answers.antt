-- `order_look::version_stands` meets its contract: by what the version's bytes say. Assumes nothing.
use Rattle.store.proofs.Slots.{slot_within}
use Rattle.order_look.proofs.version_stands.Goals as goal

pub version_at-requires : goal.version_at-requires
version_at-requires c = slot_within c.requires
