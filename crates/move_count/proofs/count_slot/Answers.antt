-- `move_count::count_slot` meets its contract: each child is weighed, and both numbers are written. Assumes nothing.
use native.Mathlib.Omega.{arith}
use mathlib.Core.Path.{ap, ◌∙◌}
use Rattle.layout.specs.Slots.{bits_in}
use Rattle.layout.specs.Stores.{slot_in}
use Rattle.terms.specs.declared.Form.TheVariants.{Plain as plain}
use Rattle.check_pass.proofs.Records.{slot_small}
use Rattle.store.proofs.Slots.{slot_within}
use Rattle.move_count.proofs.Levels.{inner_place, inner_short, slot_counted}
use Rattle.move_count.proofs.count_slot.Goals as goal

pub slot_of-requires : goal.slot_of-requires
slot_of-requires c = slot_within c.requires.1

pub count_at-requires : goal.count_at-requires
count_at-requires c = slot_within c.requires.1

pub place_at-up-requires : goal.place_at-up-requires
place_at-up-requires c =
    inner_place (slot_in plain c.args.i c.args.store.now) c.requires.2 c.count_at.ensures
    (c.bits_of.ensures.0 ∙ ap bits_in c.slot_of.ensures.0) c.bits_of.ensures.1

pub child_version_at-left-requires : goal.child_version_at-left-requires
child_version_at-left-requires c = slot_within c.requires.1

pub child_version_at-right-requires : goal.child_version_at-right-requires
child_version_at-right-requires c = slot_within c.requires.1

pub child_place-requires : goal.child_place-requires
child_place-requires c = (
  c.place_at-up.ensures.proper,
  omega (arith, c.place_at-up.ensures.count, c.count_at.ensures, inner_short (slot_in plain c.args.i c.args.store.now) c.requires.2),
)

pub overflow_mul-counts : goal.overflow_mul-counts
overflow_mul-counts c = omega (arith, slot_small c.requires.1)

pub offset_bounds-counts-i : goal.offset_bounds-counts-i
offset_bounds-counts-i c = omega (arith, slot_small c.requires.1)

pub bounds-counts-i : goal.bounds-counts-i
bounds-counts-i c = omega (arith, slot_small c.requires.1)

pub overflow_mul-counts-2 : goal.overflow_mul-counts-2
overflow_mul-counts-2 c = omega (arith, slot_small c.requires.1)

pub overflow_add-counts : goal.overflow_add-counts
overflow_add-counts c = omega (arith, slot_small c.requires.1)

pub offset_bounds-counts-i-2 : goal.offset_bounds-counts-i-2
offset_bounds-counts-i-2 c = omega (arith, slot_small c.requires.1)

pub bounds-counts-i-2 : goal.bounds-counts-i-2
bounds-counts-i-2 c = omega (arith, slot_small c.requires.1)

pub returns : goal.returns
returns c =
    slot_counted c.requires.0 c.requires.1 c.count_at.ensures (c.bits_of.ensures.0 ∙ ap bits_in c.slot_of.ensures.0) c.place_at-up.ensures
    c.child_place.ensures c.child_place-2.ensures c.args.counts.now c.child_version_at-left.ensures c.child_version_at-right.ensures
    c.leaves_at-lefts.ensures.0 c.leaves_at-rights.ensures.0 (omega (arith, slot_small c.requires.1, c.requires.3.long))
