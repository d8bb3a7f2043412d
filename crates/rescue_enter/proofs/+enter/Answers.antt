-- `rescue_enter::enter` meets its contract: the node here, then those on both sides. Assumes nothing.
use Prim.Native.Nat.{◌-◌}
use native.Mathlib.Omega.{arith}
use Rattle.terms.specs.Bits.{Byte}
use Rattle.terms.proofs.Lists.{all_of}
use Rattle.place.specs.Place.{place_of}
use Rattle.rescue_look.proofs.Looking.{inside_of}
use Rattle.rescue_enter.proofs.Walking.{held_of, enters_same, enters_end, enters_both}
use Rattle.rescue_enter.proofs.+enter.Goals as goal

pub returns-then-a-b : goal.returns-then-a-b
returns-then-a-b t c = enters_same c.args.source.now (all_of Byte c.args.source.now 0 (λ i _. omega (arith, c.shared_slice_known-1.given i))) c.args.since c.args.place c.args.a c.args.b c.requires.0 c.if-a-b.true

pub lowest-here-requires : goal.lowest-here-requires
lowest-here-requires t c = (c.requires.0.target.size, c.requires.0.proper, c.requires.1)

pub lowest-there-requires : goal.lowest-there-requires
lowest-there-requires t c = (c.requires.0.target.size, c.requires.0.proper, c.requires.1)

pub kid-a_left-requires : goal.kid-a_left-requires
kid-a_left-requires t c = inside_of c.args.source.now c.requires.0.target.size c.args.a (place_of c.args.place) c.lowest-here.result c.lowest-here.ensures

pub kid-a_right-requires : goal.kid-a_right-requires
kid-a_right-requires t c = inside_of c.args.source.now c.requires.0.target.size c.args.a (place_of c.args.place) c.lowest-here.result c.lowest-here.ensures

pub kid-b_left-requires : goal.kid-b_left-requires
kid-b_left-requires t c = inside_of c.args.source.now c.requires.0.target.size c.args.b (place_of c.args.place) c.lowest-there.result c.lowest-there.ensures

pub kid-b_right-requires : goal.kid-b_right-requires
kid-b_right-requires t c = inside_of c.args.source.now c.requires.0.target.size c.args.b (place_of c.args.place) c.lowest-there.result c.lowest-there.ensures

pub put-requires : goal.put-requires
put-requires t c = (c.requires.0.target, held_of c.args.source.now c.requires.0.target.size c.args.a (place_of c.args.place) c.lowest-here.result c.lowest-here.ensures)

pub returns-then-place-ge256 : goal.returns-then-place-ge256
returns-then-place-ge256 t c =
    enters_end c.args.source.now (all_of Byte c.args.source.now 0 (λ i _. omega (arith, c.shared_slice_known-1.given i))) c.args.since c.args.place c.args.a c.args.b c.if-a-b.false c.requires.0
    c.lowest-here.ensures c.put.ensures c.if-place-ge256.true

pub left-left-requires : goal.left-left-requires
left-left-requires t c = (c.requires.0.proper, c.if-place-ge256.false)

pub enter-requires : goal.enter-requires
enter-requires t c = (omega (arith, c.left-left.ensures.count, c.if-place-ge256.false), (record { target = c.put.ensures.target; proper = c.left-left.ensures.proper }, c.requires.1))

pub right-right-requires : goal.right-right-requires
right-right-requires t c = (c.requires.0.proper, c.if-place-ge256.false)

pub enter-requires-2 : goal.enter-requires-2
enter-requires-2 t c = (omega (arith, c.right-right.ensures.count, c.if-place-ge256.false), (record { target = c.enter.ensures.target; proper = c.right-right.ensures.proper }, c.requires.1))

pub returns : goal.returns
returns t c =
    let p = place_of c.args.place in
    enters_both c.args.source.now (all_of Byte c.args.source.now 0 (λ i _. omega (arith, c.shared_slice_known-1.given i))) c.args.since c.args.place c.args.a c.args.b c.if-a-b.false c.requires.0
    c.lowest-here.ensures c.put.ensures c.if-place-ge256.false c.left-left.ensures c.right-right.ensures
    (c.kid-a_left.ensures c.args.a p c.lowest-here.ensures) (c.kid-b_left.ensures c.args.b p c.lowest-there.ensures)
    (c.kid-a_right.ensures c.args.a p c.lowest-here.ensures) (c.kid-b_right.ensures c.args.b p c.lowest-there.ensures)
    c.enter.ensures c.enter-2.ensures
