-- `move_put::put_store` meets its contract: each turn of the loop writes one slot more. Assumes nothing.
use Prim.Native.Nat.{◌-◌}
use native.Mathlib.Omega.{arith}
use mathlib.Core.Path.{ap₂, ◌∙◌}
use Rattle.layout.specs.Headers.{header_bytes}
use Rattle.layout.proofs.Headers.{size_least}
use Rattle.fields.specs.Written.{written}
use Rattle.move_put.proofs.Putting.{few_slots, putting_starts, putting_same, putting_has, putting_whole, putting_within, putting_next, putting_done}
use Rattle.move_put.proofs.put_store.Goals as goal

pub slot_count-n-requires : goal.slot_count-n-requires
slot_count-n-requires c = c.requires.room.source

pub overflow_cast-n : goal.overflow_cast-n
overflow_cast-n c = omega (arith, few_slots c.requires c.slot_count-n.ensures)

pub oldest_of-requires : goal.oldest_of-requires
oldest_of-requires c = let a = c.args in omega (arith, size_least a.from _ c.requires.room.source)

pub latest_of-requires : goal.latest_of-requires
latest_of-requires c = let a = c.args in omega (arith, size_least a.from _ c.requires.room.source)

pub put_header-requires : goal.put_header-requires
put_header-requires c = let a = c.args in omega (arith, size_least a.to _ c.requires.room.target)

pub loop-i-init : goal.loop-i-init
loop-i-init c =
    let a = c.args in
    putting_starts c.requires c.slot_count-n.ensures
    (c.put_header.ensures
    ∙ ap₂ (λ o l. written 0 (header_bytes a.to c.slot_count-n.result o l) a.target.now) c.oldest_of.ensures c.latest_of.ensures)

pub overflow_mul-i : goal.overflow_mul-i
overflow_mul-i c = omega (arith, few_slots c.loop-i.invariant.able c.loop-i.invariant.many, c.loop-i-test.true)

pub offset_bounds-counts-i : goal.offset_bounds-counts-i
offset_bounds-counts-i c = omega (arith, few_slots c.loop-i.invariant.able c.loop-i.invariant.many, c.loop-i-test.true)

pub bounds-counts-i : goal.bounds-counts-i
bounds-counts-i c = omega (arith, few_slots c.loop-i.invariant.able c.loop-i.invariant.many, c.loop-i-test.true)

pub overflow_mul-i-in-loop-i : goal.overflow_mul-i-in-loop-i
overflow_mul-i-in-loop-i c = omega (arith, few_slots c.loop-i.invariant.able c.loop-i.invariant.many, c.loop-i-test.true)

pub overflow_add-i : goal.overflow_add-i
overflow_add-i c = omega (arith, few_slots c.loop-i.invariant.able c.loop-i.invariant.many, c.loop-i-test.true)

pub offset_bounds-counts-i-in-loop-i : goal.offset_bounds-counts-i-in-loop-i
offset_bounds-counts-i-in-loop-i c = omega (arith, few_slots c.loop-i.invariant.able c.loop-i.invariant.many, c.loop-i-test.true)

pub bounds-counts-i-in-loop-i : goal.bounds-counts-i-in-loop-i
bounds-counts-i-in-loop-i c = omega (arith, few_slots c.loop-i.invariant.able c.loop-i.invariant.many, c.loop-i-test.true)

pub put_slot-requires : goal.put_slot-requires
put_slot-requires c = (putting_has c.loop-i.invariant c.loop-i-test.true, putting_whole c.loop-i.invariant c.loop-i-test.true, putting_within c.loop-i.invariant c.loop-i-test.true)

pub loop-i-preserved : goal.loop-i-preserved
loop-i-preserved c = putting_next c.loop-i.invariant c.loop-i-test.true c.from.ensures c.from-in-loop-i.ensures c.put_slot.ensures

pub shape_of-target : goal.shape_of-target
shape_of-target c = putting_same c.loop-i.invariant ∙ c.put_header.auto.store

pub returns : goal.returns
returns c = putting_done c.loop-i.invariant c.loop-i-test.false
