-- `check_tie::parent_in` meets its contract. Assumes nothing.
use mathlib.Core.Path.{ap, ◌∙◌}
use Rattle.layout.specs.Slots.{bits_in}
use Rattle.layout.specs.Stores.{slot_in}
use Rattle.store.proofs.Slots.{slot_within}
use Rattle.check_tie.proofs.Loops.{inner_place, parent_is}
use Rattle.check_tie.proofs.parent_in.Goals as goal

pub slot_of-requires : goal.slot_of-requires
slot_of-requires c = slot_within c.requires.0

pub count_at-requires : goal.count_at-requires
count_at-requires c = slot_within c.requires.0

pub place_at-up-requires : goal.place_at-up-requires
place_at-up-requires c =
    inner_place (slot_in c.args.form c.args.j c.args.store.now) c.requires.1 c.count_at.ensures
    (c.bits_of.ensures.0 ∙ ap bits_in c.slot_of.ensures.0) c.bits_of.ensures.1

pub version_at-version-requires : goal.version_at-version-requires
version_at-version-requires c = slot_within c.requires.0

pub retired_at-requires : goal.retired_at-requires
retired_at-requires c = slot_within c.requires.0

pub returns : goal.returns
returns c =
    parent_is c.args.kept (slot_in c.args.form c.args.j c.args.store.now) c.requires.1 c.count_at.ensures
    (c.bits_of.ensures.0 ∙ ap bits_in c.slot_of.ensures.0) c.place_at-up.ensures c.version_at-version.ensures
    c.retired_at.ensures c.ends_before-ends.ensures.0 c.ends_before-ends.ensures.1 c.later-first.ensures
    c.kept_life-life.ensures
