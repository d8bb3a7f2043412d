-- `move_open::open` meets its contract, test by test. Assumes nothing.
use mathlib.Core.Path.{sym, ◌∙◌}
use Rattle.move_open.specs.Open.{checked}
use Rattle.move_open.proofs.Opening.{source_off, target_off, room_off, room_same}
use Rattle.move_open.proofs.open.Goals as goal

pub returns-then-not-size_right : goal.returns-then-not-size_right
returns-then-not-size_right c =
    let a = c.args in
    source_off a.from a.to a.source.now a.target.now (sym c.size_right.ensures ∙ c.if-not-size_right.true)

pub returns-then-not-size_right-2 : goal.returns-then-not-size_right-2
returns-then-not-size_right-2 c =
    let a = c.args in
    target_off a.from a.to a.source.now a.target.now (sym c.size_right-2.ensures ∙ c.if-not-size_right-2.true)

pub slot_count-requires : goal.slot_count-requires
slot_count-requires c = sym c.size_right.ensures ∙ c.if-not-size_right.false

pub slot_count-requires-2 : goal.slot_count-requires-2
slot_count-requires-2 c = sym c.size_right-2.ensures ∙ c.if-not-size_right-2.false

pub returns-then-slot_count : goal.returns-then-slot_count
returns-then-slot_count c =
    let a = c.args in
    room_off a.from a.to a.source.now a.target.now c.slot_count.ensures c.slot_count-2.ensures c.if-slot_count.true

pub returns : goal.returns
returns c =
    let a = c.args in
    checked
    (room_same a.from a.to a.source.now a.target.now (sym c.size_right.ensures ∙ c.if-not-size_right.false)
    (sym c.size_right-2.ensures ∙ c.if-not-size_right-2.false) c.slot_count.ensures c.slot_count-2.ensures c.if-slot_count.false)
    c.check.ensures
