-- `rescue_root::newer_root` meets its contract: the cheap fields first. Assumes nothing.
use native.Mathlib.Omega.{arith}
use mathlib.Core.Path.{sym, ◌∙◌}
use Rattle.terms.specs.Bits.{Byte}
use Rattle.terms.proofs.Lists.{all_of}
use Rattle.store.proofs.Slots.{slot_within}
use Rattle.rescue_root.proofs.Newest.{not_newer, too_new, no_top, such}
use Rattle.rescue_root.proofs.newer_root.Goals as goal

pub version_at-v-requires : goal.version_at-v-requires
version_at-v-requires c = slot_within c.requires

pub returns-then-v-above : goal.returns-then-v-above
returns-then-v-above c = not_newer c.requires (all_of Byte c.args.source.now 0 (λ i _. omega (arith, c.shared_slice_known-1.given i))) c.args.above c.args.version c.version_at-v.ensures c.if-v-above.true

pub returns-then-version-v : goal.returns-then-version-v
returns-then-version-v c = too_new c.requires (all_of Byte c.args.source.now 0 (λ i _. omega (arith, c.shared_slice_known-1.given i))) c.args.above c.args.version c.version_at-v.ensures c.if-version-v.true

pub count_at-requires : goal.count_at-requires
count_at-requires c = slot_within c.requires

pub returns-then-count_at-ne0 : goal.returns-then-count_at-ne0
returns-then-count_at-ne0 c =
    no_top c.requires (all_of Byte c.args.source.now 0 (λ i _. omega (arith, c.shared_slice_known-1.given i))) c.args.above c.args.version c.version_at-v.ensures
    (λ z. c.if-count_at-ne0.true (c.count_at.ensures ∙ z))

pub slot_of-requires : goal.slot_of-requires
slot_of-requires c = slot_within c.requires

pub holds_record-requires : goal.holds_record-requires
holds_record-requires c = c.slot_of.ensures.2

pub returns : goal.returns
returns c =
    such c.requires (all_of Byte c.args.source.now 0 (λ i _. omega (arith, c.shared_slice_known-1.given i))) c.args.above c.args.version c.version_at-v.ensures
    c.if-v-above.false c.if-version-v.false (sym c.count_at.ensures ∙ c.if-count_at-ne0.false) c.slot_of.ensures.0 c.holds_record.ensures
