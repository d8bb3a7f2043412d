-- `changes_put::put_two` meets its contract, by the order of the keys and then by the values. Assumes nothing.
use Rattle.changes_put.proofs.Putting.{two_put, none_put, fits_as, key_is, value_is, new_first, old_first, same_value, other_value}
use Rattle.changes_put.proofs.put_two.Goals as goal

pub put_pair-requires : goal.put_pair-requires
put_pair-requires c =
    let a = c.args in
    let h = c.requires in
    let s = a.store.now in
    let e = new_first s a.i a.j (key_is s a.i c.slot_of-old.ensures.0 c.key_of-2.ensures.0) (key_is s a.j c.slot_of-new.ensures.0 c.key_of.ensures.0) c.before-2.ensures c.if-before.true in
    ((h.0.1, h.0.0), fits_as e h.1)

pub returns-then-before : goal.returns-then-before
returns-then-before c =
    let a = c.args in
    let h = c.requires in
    let s = a.store.now in
    let e = new_first s a.i a.j (key_is s a.i c.slot_of-old.ensures.0 c.key_of-2.ensures.0) (key_is s a.j c.slot_of-new.ensures.0 c.key_of.ensures.0) c.before-2.ensures c.if-before.true in
    two_put a.writes a.at a.room.now e c.put_pair.ensures.next c.put_pair.ensures.bytes

pub put_pair-requires-then-before-2 : goal.put_pair-requires-then-before-2
put_pair-requires-then-before-2 c =
    let a = c.args in
    let h = c.requires in
    let s = a.store.now in
    let e = old_first s a.i a.j (key_is s a.i c.slot_of-old.ensures.0 c.key_of-3.ensures.0) (key_is s a.j c.slot_of-new.ensures.0 c.key_of-4.ensures.0) c.before-3.ensures c.if-before-2.true in
    ((h.0.0, h.0.1), fits_as e h.1)

pub returns-then-before-2 : goal.returns-then-before-2
returns-then-before-2 c =
    let a = c.args in
    let h = c.requires in
    let s = a.store.now in
    let e = old_first s a.i a.j (key_is s a.i c.slot_of-old.ensures.0 c.key_of-3.ensures.0) (key_is s a.j c.slot_of-new.ensures.0 c.key_of-4.ensures.0) c.before-3.ensures c.if-before-2.true in
    two_put a.writes a.at a.room.now e c.put_pair-then-before-2.ensures.next c.put_pair-then-before-2.ensures.bytes

pub returns-then-same : goal.returns-then-same
returns-then-same c =
    let a = c.args in
    let h = c.requires in
    let s = a.store.now in
    let e = same_value s a.i a.j (key_is s a.i c.slot_of-old.ensures.0 c.key_of-2.ensures.0) (key_is s a.j c.slot_of-new.ensures.0 c.key_of.ensures.0)
    (key_is s a.i c.slot_of-old.ensures.0 c.key_of-3.ensures.0) (key_is s a.j c.slot_of-new.ensures.0 c.key_of-4.ensures.0) c.before-2.ensures c.before-3.ensures c.if-before.false c.if-before-2.false
    (value_is s a.i c.slot_of-old.ensures.0 c.value_of.ensures.0) (value_is s a.j c.slot_of-new.ensures.0 c.value_of-2.ensures.0) c.same.ensures c.if-same.true in
    none_put a.writes a.at a.room.now e h.1

pub put_pair-requires-2 : goal.put_pair-requires-2
put_pair-requires-2 c =
    let a = c.args in
    let h = c.requires in
    let s = a.store.now in
    let e = other_value s a.i a.j (key_is s a.i c.slot_of-old.ensures.0 c.key_of-2.ensures.0) (key_is s a.j c.slot_of-new.ensures.0 c.key_of.ensures.0)
    (key_is s a.i c.slot_of-old.ensures.0 c.key_of-3.ensures.0) (key_is s a.j c.slot_of-new.ensures.0 c.key_of-4.ensures.0) c.before-2.ensures c.before-3.ensures c.if-before.false c.if-before-2.false
    (value_is s a.i c.slot_of-old.ensures.0 c.value_of.ensures.0) (value_is s a.j c.slot_of-new.ensures.0 c.value_of-2.ensures.0) c.same.ensures c.if-same.false in
    ((h.0.0, h.0.1), fits_as e h.1)

pub returns : goal.returns
returns c =
    let a = c.args in
    let h = c.requires in
    let s = a.store.now in
    let e = other_value s a.i a.j (key_is s a.i c.slot_of-old.ensures.0 c.key_of-2.ensures.0) (key_is s a.j c.slot_of-new.ensures.0 c.key_of.ensures.0)
    (key_is s a.i c.slot_of-old.ensures.0 c.key_of-3.ensures.0) (key_is s a.j c.slot_of-new.ensures.0 c.key_of-4.ensures.0) c.before-2.ensures c.before-3.ensures c.if-before.false c.if-before-2.false
    (value_is s a.i c.slot_of-old.ensures.0 c.value_of.ensures.0) (value_is s a.j c.slot_of-new.ensures.0 c.value_of-2.ensures.0) c.same.ensures c.if-same.false in
    two_put a.writes a.at a.room.now e c.put_pair-2.ensures.next c.put_pair-2.ensures.bytes
