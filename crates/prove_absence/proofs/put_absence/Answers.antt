-- `prove_absence::put_absence` meets its contract: head, key and the neighbours' records fill the part. Assumes nothing.
use native.Mathlib.Omega.{arith}
use mathlib.Core.Path.{◌≡◌, ap, ap₂, sym, ◌∙◌}
use lib.ListN.{length}
use Prim.Native.Nat.{◌+◌}
use Rattle.prove_paths.specs.Neighbours.{room_for}
use Rattle.prove_paths.proofs.Records.{given, part_room, given_long, neighbour_count, room_most}
use Rattle.prove_absence.proofs.Absences.{flag_most, absence_put}
use Rattle.prove_absence.proofs.put_absence.Goals as goal

pub overflow_add-flags : goal.overflow_add-flags
overflow_add-flags c = let a = c.args in omega (arith, flag_most a.left 1, flag_most a.right 2, c.flag-2.ensures, c.flag.ensures)

pub neighbour_length-middle-requires : goal.neighbour_length-middle-requires
neighbour_length-middle-requires c = neighbour_count c.args.store.now c.args.left c.requires.0.0

pub overflow_cast-len : goal.overflow_cast-len
overflow_cast-len c = omega (arith, room_most _ c.args.left c.requires.0.0, room_most _ c.args.right c.requires.0.1, c.requires.2)

pub put_neighbour-requires : goal.put_neighbour-requires
put_neighbour-requires c =
    let e = c.neighbour_length-middle.ensures in
    let k = c.put_u16-2.auto.s ∙ c.put_u16.auto.s ∙ c.put_u32.auto.s in
    let x = given 8 40 c.put_u16-2.new.s c.copy.new.s in
    let l : length x ≡ length c.args.part.now =
    given_long 8 40 c.put_u16-2.new.s c.copy.new.s (omega arith) (omega (arith, k, c.requires.2)) c.copy.auto.s ∙ k
    in
    (c.requires.0.0, part_room 40 (40 + c.neighbour_length-middle.result) (room_for c.args.left) x (ap (40 +◌) (sym e)) (omega (arith, l, e, c.requires.2)))

pub put_neighbour-requires-2 : goal.put_neighbour-requires-2
put_neighbour-requires-2 c =
    let e = c.neighbour_length-middle.ensures in
    let k = c.put_u16-2.auto.s ∙ c.put_u16.auto.s ∙ c.put_u32.auto.s in
    let x = given 8 40 c.put_u16-2.new.s c.copy.new.s in
    let l : length x ≡ length c.args.part.now =
    given_long 8 40 c.put_u16-2.new.s c.copy.new.s (omega arith) (omega (arith, k, c.requires.2)) c.copy.auto.s ∙ k
    in
    let m = 40 + c.neighbour_length-middle.result in
    let z = given 40 m x c.put_neighbour.new.part in
    let n : length z ≡ length c.args.part.now =
    given_long 40 m x c.put_neighbour.new.part (omega arith) (omega (arith, l, e, c.requires.2)) c.put_neighbour.auto.part ∙ l
    in
    (c.requires.0.1, part_room m (length c.args.part.now) (room_for c.args.right) z (omega (arith, e, c.requires.2)) (omega (arith, n)))

pub returns : goal.returns
returns c =
    let a = c.args in
    absence_put a.store.now a.left a.right a.key.now a.part.now c.requires.0.0 c.requires.0.1 c.requires.2 c.requires.1
    (ap₂ ◌+◌ c.flag.ensures c.flag-2.ensures) (ap (40 +◌) c.neighbour_length-middle.ensures) c.put_u32.ensures c.put_u16.ensures c.put_u16-2.ensures
    c.copy.ensures c.put_neighbour.ensures c.put_neighbour-2.ensures
