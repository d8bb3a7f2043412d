-- `message_write::write_one` meets its contract: the neighbour is the left one or the right one. Assumes nothing.
use mathlib.Core.Path.{sym, ◌∙◌}
use lib.ListN.{length}
use Rattle.terms.specs.Fields.{slice}
use Rattle.proofrecords.proofs.Forms.{absence_head_lem}
use Rattle.message_lent.specs.Lent.{leaf}
use Rattle.message_write.proofs.Lending.{writes_15, writes_same, right_lengths, flags_read, flags_are_2, form_none, form_rest, one_over, one_left, one_right}
use native.Mathlib.Omega.{arith}
use Rattle.message_write.proofs.write_one.Goals as goal

pub returns-then-not-unlent : goal.returns-then-not-unlent
returns-then-not-unlent c =
    let a = c.args in
    writes_15 (one_over a.asked.now (leaf a.key1.now a.value1.now) (leaf a.key2.now a.value2.now) (length a.room.now) a.p.now c.requires.0.0 c.requires.1 c.requires.0.1 (sym c.unlent.ensures ∙ c.if-not-unlent.true))

pub get_u16-requires : goal.get_u16-requires
get_u16-requires c = omega (arith, absence_head_lem c.args.p.now c.requires.0.0)

pub slice_bounds-write_neighbours-count : goal.slice_bounds-write_neighbours-count
slice_bounds-write_neighbours-count c = omega (arith, absence_head_lem c.args.p.now c.requires.0.0)

pub slice_bounds-write_neighbours-start : goal.slice_bounds-write_neighbours-start
slice_bounds-write_neighbours-start c = omega (arith, absence_head_lem c.args.p.now c.requires.0.0)

pub write_neighbours-requires : goal.write_neighbours-requires
write_neighbours-requires c =
    let a = c.args in
    (right_lengths 256 a.asked.now (slice 8 32 a.p.now) c.requires.1, (form_rest a.p.now c.requires.0.0 c.requires.0.1, form_none a.p.now))

pub returns-then-get_u16-eq1 : goal.returns-then-get_u16-eq1
returns-then-get_u16-eq1 c =
    let a = c.args in
    writes_same (one_left a.asked.now (leaf a.key1.now a.value1.now) (leaf a.key2.now a.value2.now) (length a.room.now) a.p.now c.requires.0.0 c.requires.1 (sym (flags_read c.args.p.now c.get_u16.ensures) ∙ c.if-get_u16-eq1.true) (sym c.unlent.ensures ∙ c.if-not-unlent.false)) c.write_neighbours.ensures

pub slice_bounds-write_neighbours-count-3 : goal.slice_bounds-write_neighbours-count-3
slice_bounds-write_neighbours-count-3 c = omega (arith, absence_head_lem c.args.p.now c.requires.0.0)

pub slice_bounds-write_neighbours-start-3 : goal.slice_bounds-write_neighbours-start-3
slice_bounds-write_neighbours-start-3 c = omega (arith, absence_head_lem c.args.p.now c.requires.0.0)

pub write_neighbours-requires-2 : goal.write_neighbours-requires-2
write_neighbours-requires-2 c =
    let a = c.args in
    (right_lengths 256 a.asked.now (slice 8 32 a.p.now) c.requires.1, (form_none a.p.now, form_rest a.p.now c.requires.0.0 c.requires.0.1))

pub returns : goal.returns
returns c =
    let a = c.args in
    let f = flags_are_2 a.p.now c.requires.0.0 c.requires.0.1 (λ z. c.if-get_u16-eq1.false (flags_read c.args.p.now c.get_u16.ensures ∙ z)) in
    writes_same (one_right a.asked.now (leaf a.key1.now a.value1.now) (leaf a.key2.now a.value2.now) (length a.room.now) a.p.now c.requires.0.0 c.requires.1 f (sym c.unlent.ensures ∙ c.if-not-unlent.false)) c.write_neighbours-2.ensures
