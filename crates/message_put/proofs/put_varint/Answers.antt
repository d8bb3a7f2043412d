-- `message_put::put_varint` meets its contract, by how many bytes it takes. Assumes nothing.
use Prim.Native.Nat.{◌+◌, ◌/◌, ◌%◌}
use mathlib.Core.Path.{refl, sym, subst}
use mathlib.Core.List.{[], ◌∷◌, ◌++◌}
use Rattle.message_rules.specs.Puts.{Puts}
use Rattle.message_put.proofs.Parts.{varint_one, varint_two, varint_three, puts_two, room_second, low_byte}
use native.Mathlib.Omega.{arith}
use Rattle.message_put.proofs.put_varint.Goals as goal

pub put_byte-requires : goal.put_byte-requires
put_byte-requires c = low_byte c.args.x c.requires.1

pub returns-then-x-lt128 : goal.returns-then-x-lt128
returns-then-x-lt128 c = let a = c.args in subst (λ f. Puts a.at f a.room.now c.put_byte.new.room c.put_byte.result) (sym (varint_one a.x c.if-x-lt128.true)) c.put_byte.ensures

pub put_byte-second-requires : goal.put_byte-second-requires
put_byte-second-requires c = low_byte c.args.x c.requires.1

pub put_byte-requires-then-high-lt128 : goal.put_byte-requires-then-high-lt128
put_byte-requires-then-high-lt128 c =
    let a = c.args in
    let e = c.low.ensures in
    let k = room_second {g = a.x / 128 ∷ []} (rw e at c.put_byte-second.ensures) (varint_two a.x c.if-x-lt128.false c.if-high-lt128.true) c.requires.1 in omega (arith, k.fits)

pub returns-then-high-lt128 : goal.returns-then-high-lt128
returns-then-high-lt128 c =
    let a = c.args in
    let e = c.low.ensures in
    puts_two (rw e at c.put_byte-second.ensures) c.put_byte-then-high-lt128.ensures (varint_two a.x c.if-x-lt128.false c.if-high-lt128.true) c.requires.1

pub put_byte-third-requires : goal.put_byte-third-requires
put_byte-third-requires c =
    let a = c.args in
    let e = c.low.ensures in
    let k = room_second {g = ((128 + a.x / 128 % 128) ∷ []) ++ (a.x / 128 / 128 ∷ [])} (rw e at c.put_byte-second.ensures) (varint_three a.x c.if-high-lt128.false c.requires.0) c.requires.1 in omega (arith, k.fits)

pub put_byte-requires-2 : goal.put_byte-requires-2
put_byte-requires-2 c =
    let a = c.args in
    let e = c.low.ensures in
    let f = c.low-2.ensures in
    let k = room_second {g = ((128 + a.x / 128 % 128) ∷ []) ++ (a.x / 128 / 128 ∷ [])} (rw e at c.put_byte-second.ensures) (varint_three a.x c.if-high-lt128.false c.requires.0) c.requires.1 in
    let j = room_second {g = a.x / 128 / 128 ∷ []} (rw f at c.put_byte-third.ensures) refl k in omega (arith, j.fits)

pub returns : goal.returns
returns c =
    let a = c.args in
    let e = c.low.ensures in
    let f = c.low-2.ensures in
    let w = varint_three a.x c.if-high-lt128.false c.requires.0 in
    let k = room_second {g = ((128 + a.x / 128 % 128) ∷ []) ++ (a.x / 128 / 128 ∷ [])} (rw e at c.put_byte-second.ensures) w c.requires.1 in
    puts_two (rw e at c.put_byte-second.ensures) (puts_two (rw f at c.put_byte-third.ensures) c.put_byte-2.ensures refl k) w c.requires.1
