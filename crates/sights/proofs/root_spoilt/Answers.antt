-- `sights::root_spoilt` meets its contract: a bit count, a lifetime or a bit that differs leaves the slot out, and else its form decides. Assumes
-- nothing.
use mathlib.Core.Path.{ap, ap₂, sym, ◌∙◌}
use Rattle.terms.specs.Fields.{all_zero}
use Rattle.layout.specs.Slots.{slot_of, bits_in}
use Rattle.store.proofs.Slots.{slot_within}
use Rattle.meaning.specs.Sight.{agrees_root}
use Rattle.lifetime.specs.Lifetime.{covers}
use Rattle.sights.specs.Sights.{is_spoilt}
use Rattle.sights.proofs.Spoilt.{apart, agreed, below_root, elsewhen, by_zeros}
use Rattle.sights.proofs.root_spoilt.Goals as goal

pub count_at-requires : goal.count_at-requires
count_at-requires c = slot_within c.requires

pub returns-then-count_at-ne0 : goal.returns-then-count_at-ne0
returns-then-count_at-ne0 c = apart c.requires (agrees_root c.args.version) (below_root c.args.version _ (λ e. c.if-count_at-ne0.true (c.count_at.ensures ∙ e)))

pub version_at-requires : goal.version_at-requires
version_at-requires c = slot_within c.requires

pub retired_at-requires : goal.retired_at-requires
retired_at-requires c = slot_within c.requires

pub returns-then-not-covers : goal.returns-then-not-covers
returns-then-not-covers c =
    apart c.requires (agrees_root c.args.version)
    (elsewhen c.args.version _ (sym c.count_at.ensures ∙ c.if-count_at-ne0.false)
    (sym (c.covers.ensures ∙ ap₂ (λ a b. covers a b c.args.version) c.version_at.ensures c.retired_at.ensures)
    ∙ c.if-not-covers.true))

pub slot_of-slot-requires : goal.slot_of-slot-requires
slot_of-slot-requires c = slot_within c.requires

pub returns-then-not-all_zero : goal.returns-then-not-all_zero
returns-then-not-all_zero c =
    apart c.requires (agrees_root c.args.version)
    (by_zeros c.args.version _ (sym c.count_at.ensures ∙ c.if-count_at-ne0.false)
    (sym (c.covers.ensures ∙ ap₂ (λ a b. covers a b c.args.version) c.version_at.ensures c.retired_at.ensures)
    ∙ c.if-not-covers.false)
    (c.all_zero.ensures ∙ ap all_zero (c.bits_of.ensures.0 ∙ ap bits_in c.slot_of-slot.ensures.0))
    ∙ c.if-not-all_zero.true)

pub returns : goal.returns
returns c =
    c.is_spoilt.ensures
    ∙ ap (λ y. is_spoilt (slot_of y)) c.slot_of-slot.ensures.0
    ∙ agreed c.requires (agrees_root c.args.version)
    (by_zeros c.args.version _ (sym c.count_at.ensures ∙ c.if-count_at-ne0.false)
    (sym (c.covers.ensures ∙ ap₂ (λ a b. covers a b c.args.version) c.version_at.ensures c.retired_at.ensures)
    ∙ c.if-not-covers.false)
    (c.all_zero.ensures ∙ ap all_zero (c.bits_of.ensures.0 ∙ ap bits_in c.slot_of-slot.ensures.0))
    ∙ c.if-not-all_zero.false)
