-- `store::clear_slot_at` meets its contract: the part of slot i comes back as the free slot. Assumes nothing.
use Rattle.store.proofs.Slots.{part_put, part_long}
use Rattle.store_put.proofs.clear_slot_at.Goals as goal

pub returns : goal.returns
returns c =
    let a = c.args in
    part_put a.form a.i a.store.now c.slot_start-start.ensures.0 c.slot_size.ensures.0 c.requires _
    (c.clear_slot.ensures a.form (part_long a.form a.i a.store.now c.slot_start-start.ensures.0 c.slot_size.ensures.0 c.requires)) c.clear_slot.auto.s
