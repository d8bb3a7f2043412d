-- `rescue_look::kid` meets its contract, by what was found. Assumes nothing.
use native.Mathlib.Omega.{arith}
use mathlib.Core.Path.{subst}
use Rattle.terms.specs.Bits.{Byte}
use Rattle.terms.proofs.Lists.{all_of}
use Rattle.store.proofs.Slots.{slot_within}
use Rattle.rescue_look.specs.Look.{Inside}
use Rattle.rescue_look.proofs.Looking.{kid_nothing, kid_leaf, kid_inner}
use Rattle.rescue_look.proofs.kid.Goals as goal

pub returns-in_default : goal.returns-in_default
returns-in_default c =
    let a = c.args in
    kid_nothing a.source.now a.right c.in_default.is

pub slot_of-requires : goal.slot_of-requires
slot_of-requires c = slot_within (subst (Inside c.args.source.now) c.in-Some.is c.requires)

pub returns-then-is_leaf : goal.returns-then-is_leaf
returns-then-is_leaf c =
    let s = c.args.source.now in
    let e = c.in-Some.is in
    kid_leaf s c.args.right (all_of Byte s 0 (λ i _. omega (arith, c.shared_slice_known-1.given i))) (subst (Inside s) e c.requires) e
    c.slot_of.ensures.0 c.is_leaf.ensures c.if-is_leaf.true

pub child_version_at-requires : goal.child_version_at-requires
child_version_at-requires c = slot_within (subst (Inside c.args.source.now) c.in-Some.is c.requires)

pub returns : goal.returns
returns c =
    let s = c.args.source.now in
    let e = c.in-Some.is in
    kid_inner s c.args.right (all_of Byte s 0 (λ i _. omega (arith, c.shared_slice_known-1.given i))) (subst (Inside s) e c.requires) e
    c.slot_of.ensures.0 c.is_leaf.ensures c.if-is_leaf.false c.child_version_at.ensures
