-- `check_own::head_right` meets its contract. Assumes nothing.
use Rattle.store.proofs.Slots.{slot_within}
use Rattle.check_own.proofs.head_right.Goals as goal

pub version_at-version-requires : goal.version_at-version-requires
version_at-version-requires c = slot_within c.requires

pub retired_at-retired-requires : goal.retired_at-retired-requires
retired_at-retired-requires c = slot_within c.requires
