-- `rescue_right::record_right` meets its contract: a leaf's key is compared with its place, an inner record's children are sought. Assumes nothing.
use native.Mathlib.Omega.{arith}
use Rattle.terms.specs.Bits.{Byte}
use Rattle.terms.proofs.Lists.{all_of}
use Rattle.store.proofs.Slots.{slot_within}
use Rattle.rescue_right.proofs.Righting.{right_nothing, sought_has, right_leaf_lem, inner_short, left_off, right_on, beside_left, beside_right}
use Rattle.rescue_right.proofs.record_right.Goals as goal

pub returns-in_default : goal.returns-in_default
returns-in_default c = right_nothing c.args.source.now c.args.version c.args.place c.requires.0 c.in_default.is

pub slot_of-slot-requires : goal.slot_of-slot-requires
slot_of-slot-requires c =
    let s = c.args.source.now in
    slot_within (sought_has s c.args.version c.args.place c.requires.0 (all_of Byte s 0 (λ i _. omega (arith, c.shared_slice_known-1.given i))) c.in-Some.is)

pub is_leaf-requires : goal.is_leaf-requires
is_leaf-requires c = c.slot_of-slot.ensures.2

pub key_of-requires : goal.key_of-requires
key_of-requires c = c.slot_of-slot.ensures.2

pub begins-requires : goal.begins-requires
begins-requires c = (c.key_of.ensures.1, c.requires.0.proper)

pub returns-then-is_leaf : goal.returns-then-is_leaf
returns-then-is_leaf c =
    let s = c.args.source.now in
    right_leaf_lem s c.args.version c.args.place c.requires.0 (all_of Byte s 0 (λ i _. omega (arith, c.shared_slice_known-1.given i))) c.in-Some.is
    c.slot_of-slot.ensures.0 c.is_leaf.ensures c.if-is_leaf.true c.key_of.ensures.0 c.begins.ensures

pub left-left-requires : goal.left-left-requires
left-left-requires c =
    let s = c.args.source.now in (
      c.requires.0.proper,
      inner_short s c.args.version c.args.place c.requires.0 (all_of Byte s 0 (λ i _. omega (arith, c.shared_slice_known-1.given i))) c.in-Some.is
          c.slot_of-slot.ensures.0 c.is_leaf.ensures c.if-is_leaf.false,
    )

pub tied-requires : goal.tied-requires
tied-requires c =
    let s = c.args.source.now in
    (sought_has s c.args.version c.args.place c.requires.0 (all_of Byte s 0 (λ i _. omega (arith, c.shared_slice_known-1.given i))) c.in-Some.is, c.left-left.ensures.proper, c.requires.1, beside_left s c.requires.0.size (all_of Byte s 0 (λ i _. omega (arith, c.shared_slice_known-1.given i))) c.args.place c.requires.0.proper c.left-left.ensures c.args.beside c.requires.2)

pub returns-then-not-tied : goal.returns-then-not-tied
returns-then-not-tied c =
    let s = c.args.source.now in
    left_off s c.args.version c.args.place c.requires.0 (all_of Byte s 0 (λ i _. omega (arith, c.shared_slice_known-1.given i))) c.in-Some.is
    c.slot_of-slot.ensures.0 c.is_leaf.ensures c.if-is_leaf.false c.left-left.ensures c.tied.ensures c.if-not-tied.true

pub right-right-requires : goal.right-right-requires
right-right-requires c =
    let s = c.args.source.now in (
      c.requires.0.proper,
      inner_short s c.args.version c.args.place c.requires.0 (all_of Byte s 0 (λ i _. omega (arith, c.shared_slice_known-1.given i))) c.in-Some.is
          c.slot_of-slot.ensures.0 c.is_leaf.ensures c.if-is_leaf.false,
    )

pub tied-requires-2 : goal.tied-requires-2
tied-requires-2 c =
    let s = c.args.source.now in
    (sought_has s c.args.version c.args.place c.requires.0 (all_of Byte s 0 (λ i _. omega (arith, c.shared_slice_known-1.given i))) c.in-Some.is, c.right-right.ensures.proper, c.requires.1, beside_right s c.requires.0.size (all_of Byte s 0 (λ i _. omega (arith, c.shared_slice_known-1.given i))) c.args.place c.requires.0.proper c.left-left.ensures c.right-right.ensures c.args.beside c.requires.2)

pub returns : goal.returns
returns c =
    let s = c.args.source.now in
    right_on s c.args.version c.args.place c.requires.0 (all_of Byte s 0 (λ i _. omega (arith, c.shared_slice_known-1.given i))) c.in-Some.is
    c.slot_of-slot.ensures.0 c.is_leaf.ensures c.if-is_leaf.false c.left-left.ensures c.tied.ensures c.if-not-tied.false
    c.right-right.ensures c.tied-2.ensures
