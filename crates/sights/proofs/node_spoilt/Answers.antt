-- `sights::node_spoilt` meets its contract: a slot that doesn't agree is left out, and else its form decides. Assumes nothing.
use mathlib.Core.Path.{ap, sym, ◌∙◌}
use Rattle.layout.specs.Slots.{slot_of}
use Rattle.store.proofs.Slots.{slot_within}
use Rattle.place.specs.Place.{place_of}
use Rattle.meaning.specs.Sight.{agrees}
use Rattle.sights.specs.Sights.{is_spoilt}
use Rattle.sights.proofs.Spoilt.{apart, agreed}
use Rattle.sights.proofs.node_spoilt.Goals as goal

pub returns-then-not-agrees : goal.returns-then-not-agrees
returns-then-not-agrees c = apart c.requires.0 (agrees c.args.version (place_of c.args.place)) (sym c.agrees.ensures ∙ c.if-not-agrees.true)

pub slot_of-requires : goal.slot_of-requires
slot_of-requires c = slot_within c.requires.0

pub returns : goal.returns
returns c =
    c.is_spoilt.ensures
    ∙ ap (λ y. is_spoilt (slot_of y)) c.slot_of.ensures.0
    ∙ agreed c.requires.0 (agrees c.args.version (place_of c.args.place)) (sym c.agrees.ensures ∙ c.if-not-agrees.false)
