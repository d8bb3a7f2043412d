-- `move_put::put_slot` meets its contract: what was read is written, by its kind. Assumes nothing.
use Rattle.move_put.proofs.Writing.{puts_free, puts_leaf, puts_inner, none_spoiled}
use Rattle.store.proofs.Slots.{slot_within}
use Rattle.move_put.proofs.put_slot.Goals as goal

pub slot_of-s-requires : goal.slot_of-s-requires
slot_of-s-requires c = slot_within c.requires.0

pub returns-in-Free : goal.returns-in-Free
returns-in-Free c =
    let a = c.args in
    puts_free a.to a.target.now c.requires.0 c.slot_of-s.ensures.0 c.read_slot-slot.ensures a.lefts a.rights c.in-Free.is
    c.clear_slot_at.ensures

pub returns-in-Leaf : goal.returns-in-Leaf
returns-in-Leaf c =
    let a = c.args in
    puts_leaf a.to a.target.now c.requires.0 c.slot_of-s.ensures.0 c.read_slot-slot.ensures a.lefts a.rights _ c.in-Leaf.is
    c.grant_of.ensures.0 c.put_leaf_at.ensures

pub returns-in-Inner : goal.returns-in-Inner
returns-in-Inner c =
    let a = c.args in
    puts_inner a.to a.target.now c.requires.0 c.slot_of-s.ensures.0 c.read_slot-slot.ensures a.lefts a.rights _ _ c.in-Inner.is
    c.put_inner_at.ensures

pub returns-in-Spoiled : goal.returns-in-Spoiled
returns-in-Spoiled c =
    let a = c.args in
    none_spoiled a.to a.target.now c.requires.0 c.slot_of-s.ensures.0 c.read_slot-slot.ensures a.lefts a.rights c.in-Spoiled.is
    c.requires.1
