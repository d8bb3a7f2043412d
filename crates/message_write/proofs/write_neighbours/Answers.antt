-- `message_write::write_neighbours` meets its contract: 15 for either leaf, else the message. Assumes nothing.
use mathlib.Core.Path.{sym, ◌∙◌}
use Rattle.message_lent.specs.Lent.{leaf, record_in, neighbour_fits}
use Rattle.message_write.specs.Wrote.{besides}
use Rattle.message_write.proofs.Lending.{writes_15, writes_same, first_off, second_off, both_on, lendable_or}
use Rattle.message_write.proofs.write_neighbours.Goals as goal

pub neighbour_fits-requires : goal.neighbour_fits-requires
neighbour_fits-requires c = c.requires.1.0

pub returns-then-not-neighbour_fits : goal.returns-then-not-neighbour_fits
returns-then-not-neighbour_fits c = writes_15 (first_off c.args.room.now (besides c.args.asked.now (leaf c.args.lkey.now c.args.lvalue.now) (record_in c.args.left.now) (leaf c.args.rkey.now c.args.rvalue.now) (record_in c.args.right.now)) (neighbour_fits (leaf c.args.rkey.now c.args.rvalue.now) (record_in c.args.right.now)) (sym c.neighbour_fits.ensures ∙ c.if-not-neighbour_fits.true))

pub neighbour_fits-requires-2 : goal.neighbour_fits-requires-2
neighbour_fits-requires-2 c = c.requires.1.1

pub returns-then-not-neighbour_fits-2 : goal.returns-then-not-neighbour_fits-2
returns-then-not-neighbour_fits-2 c = writes_15 (second_off c.args.room.now (besides c.args.asked.now (leaf c.args.lkey.now c.args.lvalue.now) (record_in c.args.left.now) (leaf c.args.rkey.now c.args.rvalue.now) (record_in c.args.right.now)) (sym c.neighbour_fits.ensures ∙ c.if-not-neighbour_fits.false) (sym c.neighbour_fits-2.ensures ∙ c.if-not-neighbour_fits-2.true))

pub write_nonexist-requires : goal.write_nonexist-requires
write_nonexist-requires c =
    let a = c.args in
    (c.requires.0, (lendable_or a.lkey.now a.lvalue.now a.left.now c.requires.1.0 (sym c.neighbour_fits.ensures ∙ c.if-not-neighbour_fits.false), lendable_or a.rkey.now a.rvalue.now a.right.now c.requires.1.1 (sym c.neighbour_fits-2.ensures ∙ c.if-not-neighbour_fits-2.false)))

pub returns : goal.returns
returns c = writes_same (both_on c.args.room.now (besides c.args.asked.now (leaf c.args.lkey.now c.args.lvalue.now) (record_in c.args.left.now) (leaf c.args.rkey.now c.args.rvalue.now) (record_in c.args.right.now)) (sym c.neighbour_fits.ensures ∙ c.if-not-neighbour_fits.false) (sym c.neighbour_fits-2.ensures ∙ c.if-not-neighbour_fits-2.false)) c.write_nonexist.ensures
