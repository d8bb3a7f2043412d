-- `read_step::seen_in` meets its contract: a record that is no leaf is an inner node; a leaf's key is compared with its place. Assumes nothing.
use Rattle.store.proofs.Slots.{slot_fits}
use Rattle.read_step.proofs.Seeing.{inner_seen, leaf_stray, leaf_seen_lem}
use Rattle.read_step.proofs.seen_in.Goals as goal

pub slot_of-slot-requires : goal.slot_of-slot-requires
slot_of-slot-requires c =
    let a = c.args in
    let h = c.requires.slotted in
    slot_fits _ a.store.now h.size a.i h.inside

pub returns-then-not-is_leaf : goal.returns-then-not-is_leaf
returns-then-not-is_leaf c = inner_seen c.requires c.slot_of-slot.ensures.0 c.is_leaf.ensures c.if-not-is_leaf.true

pub begins-requires : goal.begins-requires
begins-requires c = (c.key_of.ensures.1, c.requires.slotted.proper)

pub returns-then-not-begins : goal.returns-then-not-begins
returns-then-not-begins c =
    leaf_stray c.requires c.slot_of-slot.ensures.0 c.is_leaf.ensures c.if-not-is_leaf.false
    c.key_of.ensures.0 c.begins.ensures c.if-not-begins.true

pub returns : goal.returns
returns c =
    leaf_seen_lem c.requires c.slot_of-slot.ensures.0 c.is_leaf.ensures c.if-not-is_leaf.false
    c.key_of.ensures.0 c.begins.ensures c.if-not-begins.false
