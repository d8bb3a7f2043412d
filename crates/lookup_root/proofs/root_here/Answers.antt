-- `lookup_root::root_here` meets its contract: a record below the root and one that lives elsewhen are none, and else its form decides. Assumes
-- nothing.
use native.Mathlib.Omega.{arith}
use mathlib.Core.Path.{ap, ap₂, sym, ◌∙◌}
use Rattle.terms.specs.Bits.{Byte}
use Rattle.terms.proofs.Lists.{all_of}
use Rattle.layout.specs.Slots.{slot_of}
use Rattle.store.proofs.Slots.{slot_within}
use Rattle.lifetime.specs.Lifetime.{covers}
use Rattle.lookup.specs.Lookup.{is_used}
use Rattle.lookup_root.proofs.Rooting.{deep, elsewhen, at_top}
use Rattle.lookup_root.proofs.root_here.Goals as goal

pub count_at-requires : goal.count_at-requires
count_at-requires c = slot_within c.requires

pub returns-then-count_at-ne0 : goal.returns-then-count_at-ne0
returns-then-count_at-ne0 c =
    deep c.requires (all_of Byte c.args.store.now 0 (λ i _. omega (arith, c.shared_slice_known-1.given i)))
    c.args.version (λ e. c.if-count_at-ne0.true (c.count_at.ensures ∙ e))

pub version_at-requires : goal.version_at-requires
version_at-requires c = slot_within c.requires

pub retired_at-requires : goal.retired_at-requires
retired_at-requires c = slot_within c.requires

pub returns-then-not-covers : goal.returns-then-not-covers
returns-then-not-covers c =
    elsewhen c.requires (all_of Byte c.args.store.now 0 (λ i _. omega (arith, c.shared_slice_known-1.given i)))
    c.args.version
    (sym (c.covers.ensures ∙ ap₂ (λ a b. covers a b c.args.version) c.version_at.ensures c.retired_at.ensures)
    ∙ c.if-not-covers.true)

pub slot_of-requires : goal.slot_of-requires
slot_of-requires c = slot_within c.requires

pub returns : goal.returns
returns c =
    c.holds_record.ensures ∙ ap (λ x. is_used (slot_of x)) c.slot_of.ensures.0
    ∙ at_top c.requires (all_of Byte c.args.store.now 0 (λ i _. omega (arith, c.shared_slice_known-1.given i)))
    c.args.version (sym c.count_at.ensures ∙ c.if-count_at-ne0.false)
    (sym (c.covers.ensures ∙ ap₂ (λ a b. covers a b c.args.version) c.version_at.ensures c.retired_at.ensures)
    ∙ c.if-not-covers.false)
