-- `rescue_right::told` meets its contract: the record found is an inner one, and says the same. Assumes nothing.
use mathlib.Core.Path.{ap, sym, ◌∙◌, subst}
use Rattle.layout.specs.Slots.{is_leaf}
use Rattle.store.proofs.Slots.{slot_within}
use Rattle.rescue_look.specs.Look.{Inside}
use Rattle.rescue_right.specs.Right.{Told}
use Rattle.rescue_right.proofs.Righting.{passed_then}
use Rattle.rescue_right.proofs.told.Goals as goal

pub slot_of-requires : goal.slot_of-requires
slot_of-requires c = slot_within (subst (Inside c.args.source.now) c.in-Some.is c.requires.1)

pub is_leaf-requires : goal.is_leaf-requires
is_leaf-requires c = c.slot_of.ensures.2

pub alike-requires : goal.alike-requires
alike-requires c = (c.requires.0, subst (Inside c.args.source.now) c.in-Some.is c.requires.1)

pub returns : goal.returns
returns c =
    passed_then c.alike.result
    (λ a.
    subst (Told c.args.source.now c.args.i c.args.right) (sym c.in-Some.is)
    (ap is_leaf (sym c.slot_of.ensures.0) ∙ sym c.is_leaf.ensures ∙ c.if-is_leaf.false, a))
    c.alike.ensures
