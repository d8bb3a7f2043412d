-- `store_put::copy_slot` meets its contract: the part of slot i comes back as the bytes given. Assumes nothing.
use mathlib.Core.Path.{refl, sym, ◌∙◌}
use Rattle.terms.specs.declared.Form.TheVariants.{Counted as counted}
use Rattle.store.proofs.Slots.{part_put, part_long}
use Rattle.store_put.proofs.copy_slot.Goals as goal

pub copy-requires : goal.copy-requires
copy-requires c = c.requires.1 ∙ sym (part_long counted c.args.i c.args.store.now refl refl c.requires.0)

pub returns : goal.returns
returns c = part_put counted c.args.i c.args.store.now refl refl c.requires.0 _ c.copy.ensures c.copy.auto.s
