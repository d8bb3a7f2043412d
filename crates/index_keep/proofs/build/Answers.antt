-- `index_keep::build` meets its contract. Assumes nothing.
use native.Mathlib.Omega.{arith}
use mathlib.Core.Path.{sym, ◌∙◌}
use Rattle.index_look.proofs.Nodes.{sound_size}
use Rattle.index_keep.proofs.Keeping.{decided_yes, sound_room, sound_small}
use Rattle.index_keep.proofs.build.Goals as goal

pub slot_count-n-requires : goal.slot_count-n-requires
slot_count-n-requires c = sound_size c.requires.0

pub overflow_cast-n : goal.overflow_cast-n
overflow_cast-n c = record { fits = omega (arith, sound_small c.requires.0 c.slot_count-n.ensures) }

pub more-requires : goal.more-requires
more-requires c =
    let p = c.requires in
    let e = c.slot_count-n.ensures in (sound_room p.0 e, sound_small p.0 e, c.fill.ensures.len ∙ p.1 ∙ sym e)

pub returns-then-is_right : goal.returns-then-is_right
returns-then-is_right c = decided_yes c.is_right.result c.if-is_right.true c.is_right.ensures
