-- `store::count_at` meets its contract: the bit count of slot i, by its place in the store. Assumes nothing.
use mathlib.Core.Path.{◌∙◌}
use native.Mathlib.Omega.{arith}
use Rattle.layout.specs.Slots.{count_in}
use Rattle.store.proofs.Slots.{field_at}
use Rattle.store.proofs.count_at.Goals as goal

pub returns : goal.returns
unfolding count_in
returns c = c.get_u16.ensures ∙ field_at _ _ 6 2 _ c.slot_start-at.ensures.0 (omega arith)
