-- `rescue_right::alike` meets its contract: version, count and hash are compared. Assumes nothing.
use Rattle.store.proofs.Slots.{slot_within}
use Rattle.rescue_right.proofs.Righting.{alike_if}
use Rattle.rescue_right.proofs.alike.Goals as goal

pub child_version_at-requires : goal.child_version_at-requires
child_version_at-requires c = slot_within c.requires.0

pub child_version_at-requires-2 : goal.child_version_at-requires-2
child_version_at-requires-2 c = slot_within c.requires.0

pub child_version_at-requires-3 : goal.child_version_at-requires-3
child_version_at-requires-3 c = slot_within c.requires.1

pub child_count_at-requires : goal.child_count_at-requires
child_count_at-requires c = slot_within c.requires.0

pub child_count_at-requires-2 : goal.child_count_at-requires-2
child_count_at-requires-2 c = slot_within c.requires.1

pub slot_of-requires : goal.slot_of-requires
slot_of-requires c = slot_within c.requires.0

pub child_hash-requires : goal.child_hash-requires
child_hash-requires c = c.slot_of.ensures.2

pub slot_of-requires-2 : goal.slot_of-requires-2
slot_of-requires-2 c = slot_within c.requires.1

pub child_hash-requires-2 : goal.child_hash-requires-2
child_hash-requires-2 c = c.slot_of-2.ensures.2

pub returns : goal.returns
returns c =
    let a = c.args in
    alike_if a.source.now a.i a.j a.right c.child_version_at.ensures c.if-child_version_at-eq0.false c.child_version_at-2.ensures c.child_version_at-3.ensures c.if-child_version_at.false
    c.child_count_at.ensures c.child_count_at-2.ensures c.if-child_count_at.false c.slot_of.ensures.0 c.child_hash.ensures.0
    c.slot_of-2.ensures.0 c.child_hash-2.ensures.0 c.same.ensures
