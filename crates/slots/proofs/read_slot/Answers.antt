-- `slots::read_slot` meets its contract: the tests of the definition in their order. Assumes nothing.
use mathlib.Core.Path.{◌≡◌, sym, ◌∙◌}
use mathlib.Core.Bool.{true, false}
use Rattle.terms.specs.Fields.{all_zero}
use Rattle.layout.specs.Slots.{is_leaf, is_inner}
use Rattle.slots.proofs.Reading.{leaf_head, inner_head_lem, read_free, read_leaf, read_inner, read_spoiled}
use Rattle.slots.proofs.read_slot.Goals as goal

pub returns-then-all_zero : goal.returns-then-all_zero
returns-then-all_zero c = read_free c.bare.ensures (sym c.all_zero.ensures ∙ c.if-all_zero.true)

pub held-requires : goal.held-requires
held-requires c =
    let leaf-passed : is_leaf (c.args.s.now) ≡ true = sym c.is_leaf.ensures ∙ c.if-is_leaf.true in
    let h = leaf_head _ leaf-passed in (c.requires, h.0, h.1)

pub returns-then-is_leaf : goal.returns-then-is_leaf
returns-then-is_leaf c =
    let not_free : all_zero (c.args.s.now) ≡ false = sym c.all_zero.ensures ∙ c.if-all_zero.false in
    let leaf-passed : is_leaf (c.args.s.now) ≡ true = sym c.is_leaf.ensures ∙ c.if-is_leaf.true in
    read_leaf c.held.ensures not_free leaf-passed

pub held-requires-then-is_inner : goal.held-requires-then-is_inner
held-requires-then-is_inner c =
    let inner-passed : is_inner (c.args.s.now) ≡ true = sym c.is_inner.ensures ∙ c.if-is_inner.true in
    let h = inner_head_lem _ inner-passed in (c.requires, h.0, h.1)

pub returns-then-is_inner : goal.returns-then-is_inner
returns-then-is_inner c =
    let not_free : all_zero (c.args.s.now) ≡ false = sym c.all_zero.ensures ∙ c.if-all_zero.false in
    let not_leaf : is_leaf (c.args.s.now) ≡ false = sym c.is_leaf.ensures ∙ c.if-is_leaf.false in
    let inner-passed : is_inner (c.args.s.now) ≡ true = sym c.is_inner.ensures ∙ c.if-is_inner.true in
    read_inner c.held-then-is_inner.ensures c.child_at-left.ensures c.child_at-right.ensures not_free not_leaf inner-passed

pub returns : goal.returns
returns c =
    let not_free : all_zero (c.args.s.now) ≡ false = sym c.all_zero.ensures ∙ c.if-all_zero.false in
    let not_leaf : is_leaf (c.args.s.now) ≡ false = sym c.is_leaf.ensures ∙ c.if-is_leaf.false in
    read_spoiled c.bare-2.ensures not_free not_leaf (sym c.is_inner.ensures ∙ c.if-is_inner.false)
