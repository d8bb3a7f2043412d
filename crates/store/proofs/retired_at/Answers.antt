-- `store::retired_at` meets its contract: the retired-since of slot i, by its place in the store. Assumes nothing.
use mathlib.Core.Path.{◌∙◌}
use native.Mathlib.Omega.{arith}
use Rattle.store.proofs.Slots.{field_at}
use Rattle.store.proofs.retired_at.Goals as goal

pub returns : goal.returns
returns c = c.get_u32.ensures ∙ field_at _ _ 44 4 _ c.slot_start-at.ensures.0 (omega arith)
