-- `figures_count::add_slot` meets its contract: whether the slot's record lives, and its kind. Assumes nothing.
use native.Mathlib.Omega.{arith}
use mathlib.Core.Path.{ap, sym, ◌∙◌}
use Rattle.terms.specs.Bits.{Byte}
use Rattle.terms.proofs.Lists.{all_of}
use Rattle.store.proofs.Slots.{slot_within}
use Rattle.quarter.specs.Living.{with_leaf}
use Rattle.figures_count.specs.Count.{figures_say}
use Rattle.figures_count.proofs.Slots.{holding, adds_nothing, adds_leaf, adds_inner}
use Rattle.figures_count.proofs.add_slot.Goals as goal

pub lives-requires : goal.lives-requires
lives-requires c = c.requires.plain

pub returns-then-not-lives : goal.returns-then-not-lives
returns-then-not-lives c =
    let s = c.args.store.now in
    adds_nothing (holding s c.args.i c.requires.plain (all_of Byte s 0 (λ i _. omega (arith, c.shared_slice_known-1.given i)))) c.args.version (figures_say c.args.f)
    (sym c.lives.ensures ∙ c.if-not-lives.true)

pub kind_at-requires : goal.kind_at-requires
kind_at-requires c = slot_within c.requires.plain.has

pub count_at-steps-requires : goal.count_at-steps-requires
count_at-steps-requires c = slot_within c.requires.plain.has

pub with_leaf-requires : goal.with_leaf-requires
with_leaf-requires c =
    let s = c.args.store.now in
    let few = c.requires.few in
    let a = adds_leaf (holding s c.args.i c.requires.plain (all_of Byte s 0 (λ i _. omega (arith, c.shared_slice_known-1.given i)))) c.args.version (figures_say c.args.f)
    (sym c.lives.ensures ∙ c.if-not-lives.false) (sym c.kind_at.ensures ∙ c.if-kind_at-eq-LEAF_KIND.true) in
    record { leaves = few.leaves; inners = few.inners; sum = few.sum; steps = omega (arith, c.count_at-steps.ensures, a.1) }

pub returns-then-kind_at-eq-LEAF_KIND : goal.returns-then-kind_at-eq-LEAF_KIND
returns-then-kind_at-eq-LEAF_KIND c =
    let s = c.args.store.now in
    let a = adds_leaf (holding s c.args.i c.requires.plain (all_of Byte s 0 (λ i _. omega (arith, c.shared_slice_known-1.given i)))) c.args.version (figures_say c.args.f)
    (sym c.lives.ensures ∙ c.if-not-lives.false) (sym c.kind_at.ensures ∙ c.if-kind_at-eq-LEAF_KIND.true) in
    c.with_leaf.ensures ∙ ap (λ m. with_leaf m (figures_say c.args.f)) c.count_at-steps.ensures ∙ a.0

pub with_inner-requires : goal.with_inner-requires
with_inner-requires c = c.requires.few

pub returns : goal.returns
returns c =
    let s = c.args.store.now in
    c.with_inner.ensures
    ∙ adds_inner (holding s c.args.i c.requires.plain (all_of Byte s 0 (λ i _. omega (arith, c.shared_slice_known-1.given i)))) c.args.version (figures_say c.args.f)
    (sym c.lives.ensures ∙ c.if-not-lives.false) (λ z. c.if-kind_at-eq-LEAF_KIND.false (c.kind_at.ensures ∙ z))
