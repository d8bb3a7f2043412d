-- `message_record::put_absence` meets its contract: head, key, the neighbours. Assumes nothing.
use native.Mathlib.Nat.{sub-zero}
use Prim.Native.Nat.{◌+◌}
use mathlib.Core.Path.{ap, ap₂, sym, ◌∙◌, subst}
use lib.ListN.{take}
use Rattle.terms.specs.Fields.{slice}
use Rattle.fields.specs.Written.{written}
use Rattle.message_record.specs.Ready.{ReadyOr}
use Rattle.message_record.proofs.Records.{beside_bytes, absence_put, few_flags, few_or, few_bytes, size_is}
use native.Mathlib.Omega.{arith}
use Rattle.message_record.proofs.put_absence.Goals as goal

pub overflow_add-flags : goal.overflow_add-flags
overflow_add-flags c = omega (arith, c.flag.ensures, c.flag-2.ensures, few_flags c.args.a.left 1, few_flags c.args.a.right 2)

pub absence_size-size-requires : goal.absence_size-size-requires
absence_size-size-requires c = (few_or (take c.args.a.middle c.args.x.now) c.args.a.left c.requires.0.left_ready, few_or c.args.x.now c.args.a.right c.requires.0.right_ready)

pub neighbour_size-after-requires : goal.neighbour_size-after-requires
neighbour_size-after-requires c = few_or (take c.args.a.middle c.args.x.now) c.args.a.left c.requires.0.left_ready

pub overflow_add-after : goal.overflow_add-after
overflow_add-after c = omega (arith, c.neighbour_size-after.ensures, few_bytes (take c.args.a.middle c.args.x.now) c.args.a.left c.requires.0.left_ready)

pub overflow_cast-size : goal.overflow_cast-size
overflow_cast-size c = omega (arith, c.absence_size-size.ensures, size_is c.args.a, few_bytes (take c.args.a.middle c.args.x.now) c.args.a.left c.requires.0.left_ready, few_bytes c.args.x.now c.args.a.right c.requires.0.right_ready)

pub put_u32-requires : goal.put_u32-requires
put_u32-requires c = omega (arith, size_is c.args.a, c.requires.1)

pub put_u16-requires : goal.put_u16-requires
put_u16-requires c = omega (arith, size_is c.args.a, c.requires.1, c.put_u32.auto.s)

pub put_u16-requires-2 : goal.put_u16-requires-2
put_u16-requires-2 c = omega (arith, size_is c.args.a, c.requires.1, c.put_u32.auto.s, c.put_u16.auto.s)

pub slice_bounds-put_digest-count : goal.slice_bounds-put_digest-count
slice_bounds-put_digest-count c = omega (arith, c.requires.0.key_in_lem.0)

pub slice_bounds-put_digest-start : goal.slice_bounds-put_digest-start
slice_bounds-put_digest-start c = omega (arith, c.requires.0.key_in_lem.0, c.requires.0.key_in_lem.1)

pub slice_bounds-put_digest-end : goal.slice_bounds-put_digest-end
slice_bounds-put_digest-end c = omega (arith, c.requires.0.key_in_lem.1)

pub put_digest-requires : goal.put_digest-requires
put_digest-requires c = omega (arith, size_is c.args.a, c.requires.1, c.put_u32.auto.s, c.put_u16.auto.s, c.put_u16-2.auto.s)

pub slice_bounds-put_neighbour-end : goal.slice_bounds-put_neighbour-end
slice_bounds-put_neighbour-end c = omega (arith, c.requires.0.middle_in)

pub put_neighbour-requires : goal.put_neighbour-requires
put_neighbour-requires c =
    let a = c.args in
    (subst (λ k. ReadyOr (take k a.x.now) a.a.left) (sym (sub-zero a.a.middle)) c.requires.0.left_ready, omega (arith, size_is a.a, c.requires.1, c.put_u32.auto.s, c.put_u16.auto.s, c.put_u16-2.auto.s, c.put_digest.auto.room))

pub put_neighbour-requires-2 : goal.put_neighbour-requires-2
put_neighbour-requires-2 c =
    let a = c.args in
    (c.requires.0.right_ready, omega (arith, size_is a.a, c.requires.1, c.neighbour_size-after.ensures, c.put_u32.auto.s, c.put_u16.auto.s, c.put_u16-2.auto.s, c.put_digest.auto.room, c.put_neighbour.auto.room))

pub shape_of-room : goal.shape_of-room
shape_of-room c = c.put_neighbour-2.auto.room ∙ c.put_neighbour.auto.room ∙ c.put_digest.auto.room ∙ c.put_u16-2.auto.s ∙ c.put_u16.auto.s ∙ c.put_u32.auto.s

pub returns : goal.returns
unfolding slice
returns c =
    let a = c.args in
    absence_put c.absence_size-size.result (c.flag.result + c.flag-2.result) (40 + c.neighbour_size-after.result) a.room.now c.put_u32.new.s c.put_u16.new.s c.put_u16-2.new.s c.put_digest.new.room c.put_neighbour.new.room c.put_neighbour-2.new.room c.requires.0 c.absence_size-size.ensures (ap₂ ◌+◌ c.flag.ensures c.flag-2.ensures) (ap (40 +◌) c.neighbour_size-after.ensures) (omega (arith, c.absence_size-size.ensures, c.requires.1))
    c.put_u32.ensures c.put_u16.ensures c.put_u16-2.ensures c.put_digest.ensures
    (c.put_neighbour.ensures ∙ ap (λ k. written 40 (beside_bytes (take k a.x.now) a.a.left) c.put_digest.new.room) (sub-zero a.a.middle)) c.put_neighbour-2.ensures
