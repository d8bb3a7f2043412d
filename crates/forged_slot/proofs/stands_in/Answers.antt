-- `forged_slot::stands_in` meets its contract: the lifetime decides, else whether it is a record. Assumes nothing.
use mathlib.Core.Path.{ap, ap₂, sym, ◌∙◌}
use Rattle.layout.specs.Slots.{slot_of}
use Rattle.store.proofs.Slots.{slot_within}
use Rattle.lookup.specs.Lookup.{is_used}
use Rattle.lifetime.specs.Lifetime.{covers}
use Rattle.forged_slot.proofs.Messages.{not_alive, alive}
use Rattle.forged_slot.proofs.stands_in.Goals as goal

pub version_at-requires : goal.version_at-requires
version_at-requires c = slot_within c.requires

pub retired_at-requires : goal.retired_at-requires
retired_at-requires c = slot_within c.requires

pub returns-then-not-covers : goal.returns-then-not-covers
returns-then-not-covers c =
    let v = c.args.version in
    not_alive v _
    (sym (c.covers.ensures ∙ ap₂ (λ a b. covers a b v) c.version_at.ensures c.retired_at.ensures)
    ∙ c.if-not-covers.true)

pub slot_of-requires : goal.slot_of-requires
slot_of-requires c = slot_within c.requires

pub returns : goal.returns
returns c =
    let v = c.args.version in
    c.holds_record.ensures ∙ ap (λ x. is_used (slot_of x)) c.slot_of.ensures.0
    ∙ alive v _
    (sym (c.covers.ensures ∙ ap₂ (λ a b. covers a b v) c.version_at.ensures c.retired_at.ensures)
    ∙ c.if-not-covers.false)
