-- `rescue_look::linked` meets its contract: the child's record is sought, hashed and compared. Assumes nothing.
use native.Mathlib.Omega.{arith}
use Rattle.terms.specs.Bits.{Byte}
use Rattle.terms.proofs.Lists.{all_of}
use Rattle.place.specs.Place.{place_of}
use Rattle.store.proofs.Slots.{slot_within}
use Rattle.rescue_look.proofs.Looking.{link_nothing, has_j, link_off, link_leaf, link_inner, inside_of, tied_off, tied_on}
use Rattle.rescue_look.proofs.linked.Goals as goal

pub child_version_at-version-requires : goal.child_version_at-version-requires
child_version_at-version-requires c = slot_within c.requires.0

pub child_version_at-other-requires : goal.child_version_at-other-requires
child_version_at-other-requires c = slot_within c.requires.0

pub slot_of-requires : goal.slot_of-requires
slot_of-requires c = slot_within c.requires.0

pub child_hash-requires : goal.child_hash-requires
child_hash-requires c = c.slot_of.ensures.2

pub hash_at-hash-requires : goal.hash_at-hash-requires
hash_at-hash-requires c = omega (arith, c.child_hash.ensures.1)

pub lowest-found-requires : goal.lowest-found-requires
lowest-found-requires c = (c.requires.0.size, c.requires.1, c.requires.2)

pub weighs-requires : goal.weighs-requires
weighs-requires c = (c.requires.0, inside_of c.args.source.now c.requires.0.size _ _ c.lowest-found.result c.lowest-found.ensures)

pub returns-then-not-weighs : goal.returns-then-not-weighs
returns-then-not-weighs c =
    tied_off c.args.source.now c.args.i c.args.right (place_of c.args.place) c.lowest-found.result c.child_version_at-version.ensures c.lowest-found.ensures
    c.weighs.ensures c.if-not-weighs.true

pub returns-in_default : goal.returns-in_default
returns-in_default c =
    tied_on c.args.source.now c.args.i c.args.right (place_of c.args.place) c.lowest-found.result c.child_version_at-version.ensures c.lowest-found.ensures
    c.weighs.ensures c.if-not-weighs.false (link_nothing c.args.source.now c.args.i c.args.right (place_of c.args.place) c.child_version_at-version.ensures c.lowest-found.ensures c.in_default.is)

pub slot_of-slot-requires : goal.slot_of-slot-requires
slot_of-slot-requires c =
    let s = c.args.source.now in
    slot_within (has_j s c.args.i c.args.right (place_of c.args.place) c.child_version_at-version.ensures c.lowest-found.ensures c.requires.0.size
    (all_of Byte s 0 (λ i _. omega (arith, c.shared_slice_known-1.given i))) c.in-Some.is)

pub record_hash-requires : goal.record_hash-requires
record_hash-requires c = c.slot_of-slot.ensures.1

pub returns-then-not-same_hash : goal.returns-then-not-same_hash
returns-then-not-same_hash c =
    let s = c.args.source.now in
    tied_on s c.args.i c.args.right (place_of c.args.place) c.lowest-found.result c.child_version_at-version.ensures c.lowest-found.ensures
    c.weighs.ensures c.if-not-weighs.false (link_off s c.args.i c.args.right (place_of c.args.place) c.child_version_at-version.ensures c.lowest-found.ensures c.requires.0.size
    (all_of Byte s 0 (λ i _. omega (arith, c.shared_slice_known-1.given i))) c.in-Some.is c.slot_of-slot.ensures.0 c.record_hash.ensures
    c.slot_of.ensures.0 c.child_hash.ensures.0 c.child_hash.ensures.1 c.hash_at-hash.ensures.result_value c.same_hash.ensures c.if-not-same_hash.true)

pub is_leaf-requires : goal.is_leaf-requires
is_leaf-requires c = c.slot_of-slot.ensures.2

pub returns-then-is_leaf : goal.returns-then-is_leaf
returns-then-is_leaf c =
    let s = c.args.source.now in
    tied_on s c.args.i c.args.right (place_of c.args.place) c.lowest-found.result c.child_version_at-version.ensures c.lowest-found.ensures
    c.weighs.ensures c.if-not-weighs.false (link_leaf s c.args.i c.args.right (place_of c.args.place) c.child_version_at-version.ensures c.lowest-found.ensures c.requires.0.size
    (all_of Byte s 0 (λ i _. omega (arith, c.shared_slice_known-1.given i))) c.in-Some.is c.slot_of-slot.ensures.0 c.record_hash.ensures
    c.slot_of.ensures.0 c.child_hash.ensures.0 c.child_hash.ensures.1 c.hash_at-hash.ensures.result_value c.same_hash.ensures c.if-not-same_hash.false
    c.is_leaf.ensures c.if-is_leaf.true c.child_version_at-other.ensures)

pub returns : goal.returns
returns c =
    let s = c.args.source.now in
    tied_on s c.args.i c.args.right (place_of c.args.place) c.lowest-found.result c.child_version_at-version.ensures c.lowest-found.ensures
    c.weighs.ensures c.if-not-weighs.false (link_inner s c.args.i c.args.right (place_of c.args.place) c.child_version_at-version.ensures c.lowest-found.ensures c.requires.0.size
    (all_of Byte s 0 (λ i _. omega (arith, c.shared_slice_known-1.given i))) c.in-Some.is c.slot_of-slot.ensures.0 c.record_hash.ensures
    c.slot_of.ensures.0 c.child_hash.ensures.0 c.child_hash.ensures.1 c.hash_at-hash.ensures.result_value c.same_hash.ensures c.if-not-same_hash.false
    c.is_leaf.ensures c.if-is_leaf.false)
