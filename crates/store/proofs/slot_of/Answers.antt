-- `store::slot_of` meets its contract: the part that is handed out is the slot. Assumes nothing.
use native.Mathlib.Omega.{arith}
use Rattle.layout.proofs.Headers.{size_small}
use Rattle.store.proofs.Slots.{part_is, part_long}
use Rattle.store.proofs.slot_of.Goals as goal

pub returns : goal.returns
returns c =
    let a = c.args in
    let p = part_is a.form a.i a.store.now c.slot_start-start.ensures.0 c.slot_size.ensures.0 in
    let l = part_long a.form a.i a.store.now c.slot_start-start.ensures.0 c.slot_size.ensures.0 c.requires in
    let t = size_small a.form in
    (p, l, (omega (arith, l), omega (arith, l)))
