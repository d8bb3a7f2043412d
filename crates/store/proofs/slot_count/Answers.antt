-- `store::slot_count` meets its contract: a store of the right size has a header. Assumes nothing.
use native.Mathlib.Omega.{arith}
use Rattle.layout.proofs.Headers.{size_least, room_by}
use Rattle.store.proofs.slot_count.Goals as goal

pub overflow_sub-result : goal.overflow_sub-result
overflow_sub-result c = omega (arith, size_least _ _ c.requires)

pub returns : goal.returns
returns c = room_by _ _ c.slot_size.ensures.0
