-- `index_keep::keep_more` meets its contract. Assumes nothing.
use mathlib.Core.Path.{sym, ◌∙◌}
use Rattle.index_look.proofs.Nodes.{sound_size}
use Rattle.index_keep.proofs.Keeping.{sound_room, sound_small}
use Rattle.index_keep.proofs.keep_more.Goals as goal

pub slot_count-n-requires : goal.slot_count-n-requires
slot_count-n-requires c = sound_size c.requires.0

pub more-requires : goal.more-requires
more-requires c = let e = c.slot_count-n.ensures in let p = c.requires in (sound_room p.0 e, sound_small p.0 e, p.1 ∙ sym e)
