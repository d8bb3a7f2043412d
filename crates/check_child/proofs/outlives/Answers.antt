-- `check_child::outlives` meets its contract. Assumes nothing.
use mathlib.Core.Path.{refl}
use Rattle.store.proofs.Slots.{slot_within}
use Rattle.check_child.proofs.Children.{some_other, by_kind}
use Rattle.check_child.proofs.outlives.Goals as goal

pub retired_at-requires : goal.retired_at-requires
retired_at-requires c = slot_within c.requires.0

pub returns-then-ends_before-ends : goal.returns-then-ends_before-ends
returns-then-ends_before-ends c = tt

pub returns-then-other-ne0 : goal.returns-then-other-ne0
returns-then-other-ne0 c =
    some_other c.requires.0 c.requires.1 c.retired_at.ensures c.ends_before.ensures.0 c.if-ends_before-ends.false
    c.args.other c.if-other-ne0.true

pub kind_at-requires : goal.kind_at-requires
kind_at-requires c = slot_within c.requires.0

pub returns : goal.returns
returns c =
    by_kind c.requires.0 c.requires.1 c.retired_at.ensures c.ends_before.ensures.0 c.if-ends_before-ends.false c.args.other
    c.kind_at.ensures _ refl
