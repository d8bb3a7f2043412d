-- `message_write::write` meets its contract, by what the bytes are. Assumes nothing.
use mathlib.Core.Path.{sym, ◌∙◌}
use lib.ListN.{length}
use Rattle.message_lent.specs.Lent.{leaf}
use Rattle.message_write.specs.Wrote.{lent}
use Rattle.message_write.proofs.Lending.{writes_same, is_presence_lem, is_absence_lem, not_in_form}
use Rattle.message_write.proofs.write.Goals as goal

pub write_presence-requires : goal.write_presence-requires
write_presence-requires c = sym c.is_presence.ensures ∙ c.if-is_presence.true

pub returns-then-is_presence : goal.returns-then-is_presence
returns-then-is_presence c =
    let a = c.args in
    writes_same (is_presence_lem a.p.now (lent a.asked.now (leaf a.key1.now a.value1.now) (leaf a.key2.now a.value2.now)) (length a.room.now) (sym c.is_presence.ensures ∙ c.if-is_presence.true)) c.write_presence.ensures

pub write_absence-requires : goal.write_absence-requires
write_absence-requires c = sym c.is_absence.ensures ∙ c.if-is_absence.true

pub returns-then-is_absence : goal.returns-then-is_absence
returns-then-is_absence c =
    let a = c.args in
    writes_same (is_absence_lem a.p.now (lent a.asked.now (leaf a.key1.now a.value1.now) (leaf a.key2.now a.value2.now)) (length a.room.now) (sym c.is_presence.ensures ∙ c.if-is_presence.false) (sym c.is_absence.ensures ∙ c.if-is_absence.true)) c.write_absence.ensures

pub returns : goal.returns
returns c =
    let a = c.args in
    not_in_form a.p.now (lent a.asked.now (leaf a.key1.now a.value1.now) (leaf a.key2.now a.value2.now)) a.room.now (sym c.is_presence.ensures ∙ c.if-is_presence.false) (sym c.is_absence.ensures ∙ c.if-is_absence.false)
