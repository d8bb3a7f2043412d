-- `prune_free::free_retired` meets its contract: each turn of the loop prunes one slot more. Assumes nothing.
use native.Mathlib.Omega.{arith}
use Rattle.prune_free.proofs.Freeing.{readable_size, freeing_starts, freeing_same, freeing_within, freeing_next, freeing_done}
use Rattle.prune_free.proofs.free_retired.Goals as goal

pub slot_count-slots-requires : goal.slot_count-slots-requires
slot_count-slots-requires c = readable_size c.requires

pub loop-i-init : goal.loop-i-init
loop-i-init c = freeing_starts c.args.version c.args.store.now c.requires c.slot_count-slots.ensures

pub free_slot-freed-requires : goal.free_slot-freed-requires
free_slot-freed-requires c = freeing_within c.loop-i.invariant (omega arith)

pub overflow_add-freed : goal.overflow_add-freed
overflow_add-freed c =
    let w = freeing_next c.loop-i.invariant (omega arith) c.free_slot-freed.ensures.bytes c.free_slot-freed.ensures.count in
    omega (arith, w.few, w.scan.within, w.scan.small)

pub loop-i-preserved : goal.loop-i-preserved
loop-i-preserved c = freeing_next c.loop-i.invariant (omega arith) c.free_slot-freed.ensures.bytes c.free_slot-freed.ensures.count

pub shape_of-store : goal.shape_of-store
shape_of-store c = freeing_same c.loop-i.invariant

pub returns : goal.returns
returns c = freeing_done c.loop-i.invariant (omega arith)
