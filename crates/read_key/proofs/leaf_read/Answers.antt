-- `read_key::leaf_read` meets its contract: key and value are read where they lie in the slot. Assumes nothing.
use native.Mathlib.Omega.{arith}
use Rattle.store.proofs.Slots.{slot_fits}
use Rattle.read_key.proofs.Leaves.{leaf_present, leaf_absent}
use Rattle.read_key.proofs.leaf_read.Goals as goal

pub slot_of-slot-requires : goal.slot_of-slot-requires
slot_of-slot-requires c = slot_fits _ c.args.store.now c.requires.0 c.args.i c.requires.1

pub hash_at-value-requires : goal.hash_at-value-requires
hash_at-value-requires c = omega (arith, c.value_of.ensures.1)

pub returns-then-same : goal.returns-then-same
returns-then-same c =
    let a = c.args in
    leaf_present a.i a.store.now a.key.now c.slot_of-slot.ensures.0 c.key_of.ensures.0 c.hash_at-value.result
    c.same.ensures c.if-same.true c.value_of.ensures.0 c.hash_at-value.ensures.result_value

pub returns : goal.returns
returns c =
    let a = c.args in
    leaf_absent a.i a.store.now a.key.now c.slot_of-slot.ensures.0 c.key_of.ensures.0 c.same.ensures
    c.if-same.false
