-- `message_write::write_absence` meets its contract: the key asked for, then one neighbour or two. Assumes nothing.
use mathlib.Core.Path.{sym, ◌∙◌}
use lib.ListN.{length}
use Rattle.terms.specs.Fields.{slice}
use Prim.Native.Nat.{◌<◌}
use Rattle.proofrecords.specs.ProofBytes.{flags, absence_in}
use Rattle.proofrecords.proofs.Forms.{absence_head_lem, both_room}
use Rattle.message_lent.specs.Lent.{leaf}
use Rattle.message_write.proofs.Lending.{writes_15, writes_same, key_off, right_lengths, flags_read, length_read, form_left, form_right, two_shown}
use native.Mathlib.Omega.{arith}
use Rattle.message_write.proofs.write_absence.Goals as goal

pub hashes_to-requires : goal.hashes_to-requires
hashes_to-requires c = omega (arith, absence_head_lem c.args.p.now c.requires)

pub returns-then-not-hashes_to : goal.returns-then-not-hashes_to
unfolding absence_in
returns-then-not-hashes_to c =
    let a = c.args in
    writes_15 (key_off a.asked.now (leaf a.key1.now a.value1.now) (leaf a.key2.now a.value2.now) (length a.room.now) (absence_in a.p.now) (sym c.hashes_to.ensures ∙ c.if-not-hashes_to.true))

pub get_u16-requires : goal.get_u16-requires
get_u16-requires c = omega (arith, absence_head_lem c.args.p.now c.requires)

pub write_one-requires : goal.write_one-requires
write_one-requires c = ((c.requires, omega (arith, flags_read c.args.p.now c.get_u16.ensures, c.if-get_u16-le2.true)), sym c.hashes_to.ensures ∙ c.if-not-hashes_to.false)

pub returns-then-get_u16-le2 : goal.returns-then-get_u16-le2
returns-then-get_u16-le2 c = c.write_one.ensures

pub get_u32-requires : goal.get_u32-requires
get_u32-requires c = omega (arith, both_room c.args.p.now c.requires (omega (arith, flags_read c.args.p.now c.get_u16.ensures, c.if-get_u16-le2.false)))

pub slice_bounds-write_neighbours-end : goal.slice_bounds-write_neighbours-end
slice_bounds-write_neighbours-end c =
    let two : 2 < flags c.args.p.now = omega (arith, flags_read c.args.p.now c.get_u16.ensures, c.if-get_u16-le2.false) in
    omega (arith, both_room c.args.p.now c.requires two, length_read c.args.p.now c.get_u32.ensures)

pub slice_bounds-write_neighbours-count-2 : goal.slice_bounds-write_neighbours-count-2
slice_bounds-write_neighbours-count-2 c =
    let two : 2 < flags c.args.p.now = omega (arith, flags_read c.args.p.now c.get_u16.ensures, c.if-get_u16-le2.false) in
    omega (arith, both_room c.args.p.now c.requires two, length_read c.args.p.now c.get_u32.ensures)

pub slice_bounds-write_neighbours-start-2 : goal.slice_bounds-write_neighbours-start-2
slice_bounds-write_neighbours-start-2 c =
    let two : 2 < flags c.args.p.now = omega (arith, flags_read c.args.p.now c.get_u16.ensures, c.if-get_u16-le2.false) in
    omega (arith, both_room c.args.p.now c.requires two, length_read c.args.p.now c.get_u32.ensures)

pub write_neighbours-requires : goal.write_neighbours-requires
write_neighbours-requires c =
    let a = c.args in
    let two : 2 < flags a.p.now = omega (arith, flags_read c.args.p.now c.get_u16.ensures, c.if-get_u16-le2.false) in
    let l = length_read c.args.p.now c.get_u32.ensures in
    (right_lengths 256 a.asked.now (slice 8 32 a.p.now) (sym c.hashes_to.ensures ∙ c.if-not-hashes_to.false), (form_left a.p.now c.requires c.get_u32.result l two, form_right a.p.now c.requires c.get_u32.result l two))

pub returns : goal.returns
returns c =
    let a = c.args in
    let two : 2 < flags a.p.now = omega (arith, flags_read c.args.p.now c.get_u16.ensures, c.if-get_u16-le2.false) in
    writes_same (two_shown a.asked.now (leaf a.key1.now a.value1.now) (leaf a.key2.now a.value2.now) (length a.room.now) a.p.now c.requires (sym c.hashes_to.ensures ∙ c.if-not-hashes_to.false) c.get_u32.result (length_read c.args.p.now c.get_u32.ensures) two) c.write_neighbours.ensures
