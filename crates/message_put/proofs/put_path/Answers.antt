-- `message_put::put_path` meets its contract: a step a turn. Assumes nothing.
use Rattle.proofrecords.proofs.Forms.{presence_whole}
use Rattle.message_lent.proofs.Lengths.{count_read}
use Rattle.message_put.proofs.Parts.{pathing_start, inner_room, inner_next, pathing_done, path_room, long_enough}
use Rattle.message_rules.proofs.Writing.{puts_length}
use native.Mathlib.Omega.{arith}
use Rattle.message_put.proofs.put_path.Goals as goal

pub get_u16-n-requires : goal.get_u16-n-requires
get_u16-n-requires c = omega (arith, presence_whole c.args.p.now c.requires.0)

pub loop-i-init : goal.loop-i-init
loop-i-init c = pathing_start _ _ _ _

pub slice_bounds-put_inner-start : goal.slice_bounds-put_inner-start
slice_bounds-put_inner-start c = omega (arith, long_enough c.args.p.now c.get_u16-n.result c.requires.0 (count_read c.args.p.now c.get_u16-n.result c.get_u16-n.ensures))

pub slice_bounds-put_inner-end : goal.slice_bounds-put_inner-end
slice_bounds-put_inner-end c = omega (arith, long_enough c.args.p.now c.get_u16-n.result c.requires.0 (count_read c.args.p.now c.get_u16-n.result c.get_u16-n.ensures))

pub put_inner-next-requires : goal.put_inner-next-requires
put_inner-next-requires c =
    let a = c.args in
    let e = count_read a.p.now c.get_u16-n.result c.get_u16-n.ensures in
    let long = long_enough a.p.now c.get_u16-n.result c.requires.0 e in
    inner_room c.loop-i.invariant c.loop-i-test.true long (path_room a.p.now c.get_u16-n.result a.at a.room.now e c.requires.1)

pub loop-i-preserved : goal.loop-i-preserved
loop-i-preserved c =
    let a = c.args in
    let e = count_read a.p.now c.get_u16-n.result c.get_u16-n.ensures in
    let long = long_enough a.p.now c.get_u16-n.result c.requires.0 e in
    inner_next c.loop-i.invariant c.loop-i-test.true long (path_room a.p.now c.get_u16-n.result a.at a.room.now e c.requires.1) c.put_inner-next.ensures

pub shape_of-room : goal.shape_of-room
shape_of-room c =
    let a = c.args in
    let e = count_read a.p.now c.get_u16-n.result c.get_u16-n.ensures in
    puts_length (pathing_done c.loop-i.invariant c.loop-i-test.false e) c.requires.1.fits

pub returns : goal.returns
returns c =
    let e = count_read c.args.p.now c.get_u16-n.result c.get_u16-n.ensures in
    pathing_done c.loop-i.invariant c.loop-i-test.false e
