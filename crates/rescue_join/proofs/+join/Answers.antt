-- `rescue_join::join` meets its contract: what is looked at here, then both sides. Assumes nothing.
use native.Mathlib.Omega.{arith}
use mathlib.Core.Path.{subst}
use Rattle.terms.specs.Bits.{left, right}
use Rattle.place.specs.Place.{place_of}
use Rattle.rescue_look.proofs.Looking.{inside_of}
use Rattle.rescue_join.specs.Join.{JoinSays}
use Rattle.rescue_join.proofs.Joining.{joins_same, joins_apart, joins_wrong, joins_end, left_broken, right_broken, both_fit}
use Rattle.rescue_join.proofs.Rights.{right_here, right_side}
use Rattle.rescue_join.proofs.+join.Goals as goal

pub returns-then-a-b : goal.returns-then-a-b
returns-then-a-b t c = joins_same c.args.source.now c.args.next c.args.place c.args.a c.args.b c.if-a-b.true

pub returns-then-not-of_next : goal.returns-then-not-of_next
returns-then-not-of_next t c = joins_apart c.args.source.now c.args.next c.args.place c.args.a c.args.b c.if-a-b.false c.of_next.ensures c.if-not-of_next.true

pub lowest-here-requires : goal.lowest-here-requires
lowest-here-requires t c = (c.requires.0, c.requires.1, c.requires.2)

pub lowest-there-requires : goal.lowest-there-requires
lowest-there-requires t c = (c.requires.0, c.requires.1, c.requires.2)

pub record_right-requires : goal.record_right-requires
record_right-requires t c = (
  record { size = c.requires.0; proper = c.requires.1; lowest = c.lowest-here.ensures },
  c.requires.2,
  record { version = c.args.b; lowest = c.lowest-there.ensures; right = right_here c.args.source.now c.args.place c.args.b c.requires.3 },
)

pub returns-then-not-record_right : goal.returns-then-not-record_right
returns-then-not-record_right t c =
    joins_wrong c.args.source.now c.args.next c.args.place c.args.a c.args.b c.if-a-b.false c.of_next.ensures c.if-not-of_next.false
    c.record_right.ensures c.if-not-record_right.true

pub returns-then-place-ge256 : goal.returns-then-place-ge256
returns-then-place-ge256 t c =
    joins_end c.args.source.now c.args.next c.args.place c.args.a c.args.b c.if-a-b.false c.of_next.ensures c.if-not-of_next.false
    c.record_right.ensures c.if-not-record_right.false c.if-place-ge256.true

pub kid-a_left-requires : goal.kid-a_left-requires
kid-a_left-requires t c = inside_of c.args.source.now c.requires.0 c.args.a (place_of c.args.place) c.lowest-here.result c.lowest-here.ensures

pub kid-a_right-requires : goal.kid-a_right-requires
kid-a_right-requires t c = inside_of c.args.source.now c.requires.0 c.args.a (place_of c.args.place) c.lowest-here.result c.lowest-here.ensures

pub kid-b_left-requires : goal.kid-b_left-requires
kid-b_left-requires t c = inside_of c.args.source.now c.requires.0 c.args.b (place_of c.args.place) c.lowest-there.result c.lowest-there.ensures

pub kid-b_right-requires : goal.kid-b_right-requires
kid-b_right-requires t c = inside_of c.args.source.now c.requires.0 c.args.b (place_of c.args.place) c.lowest-there.result c.lowest-there.ensures

pub left-left-requires : goal.left-left-requires
left-left-requires t c = (c.requires.1, c.if-place-ge256.false)

pub join-requires : goal.join-requires
join-requires t c =
    let p = place_of c.args.place in (
      omega (arith, c.left-left.ensures.count, c.if-place-ge256.false),
      (
        c.requires.0,
        c.left-left.ensures.proper,
        c.requires.2,
        right_side c.args.source.now c.args.place c.args.b c.requires.3 c.if-place-ge256.false left c.left-left.ensures
            (c.kid-b_left.ensures c.args.b p c.lowest-there.ensures),
      ),
    )

pub returns-in_err-l : goal.returns-in_err-l
returns-in_err-l t c =
    let p = place_of c.args.place in
    let s = c.args.source.now in
    rw c.from_residual.ensures
    (left_broken s c.args.next c.args.place c.args.a c.args.b c.if-a-b.false c.of_next.ensures c.if-not-of_next.false
    c.record_right.ensures c.if-not-record_right.false c.if-place-ge256.false c.left-left.ensures
    (c.kid-a_left.ensures c.args.a p c.lowest-here.ensures) (c.kid-b_left.ensures c.args.b p c.lowest-there.ensures)
    (subst (JoinSays s c.args.next c.left-left.result c.kid-a_left.result c.kid-b_left.result) c.in_err-l.was c.join.ensures))

pub right-right-requires : goal.right-right-requires
right-right-requires t c = (c.requires.1, c.if-place-ge256.false)

pub join-requires-2 : goal.join-requires-2
join-requires-2 t c =
    let p = place_of c.args.place in (
      omega (arith, c.right-right.ensures.count, c.if-place-ge256.false),
      (
        c.requires.0,
        c.right-right.ensures.proper,
        c.requires.2,
        right_side c.args.source.now c.args.place c.args.b c.requires.3 c.if-place-ge256.false right c.right-right.ensures
            (c.kid-b_right.ensures c.args.b p c.lowest-there.ensures),
      ),
    )

pub returns-in_err-r : goal.returns-in_err-r
returns-in_err-r t c =
    let p = place_of c.args.place in
    let s = c.args.source.now in
    rw c.from_residual-in_err-r.ensures
    (right_broken s c.args.next c.args.place c.args.a c.args.b c.if-a-b.false c.of_next.ensures c.if-not-of_next.false
    c.record_right.ensures c.if-not-record_right.false c.if-place-ge256.false c.right-right.ensures
    (c.kid-a_right.ensures c.args.a p c.lowest-here.ensures) (c.kid-b_right.ensures c.args.b p c.lowest-there.ensures)
    (subst (JoinSays s c.args.next c.right-right.result c.kid-a_right.result c.kid-b_right.result) c.in_err-r.was c.join-2.ensures))

pub returns : goal.returns
returns t c =
    let p = place_of c.args.place in
    let s = c.args.source.now in
    both_fit s c.args.next c.args.place c.args.a c.args.b c.if-a-b.false c.of_next.ensures c.if-not-of_next.false
    c.record_right.ensures c.if-not-record_right.false c.if-place-ge256.false c.right-right.ensures
    (c.kid-a_right.ensures c.args.a p c.lowest-here.ensures) (c.kid-b_right.ensures c.args.b p c.lowest-there.ensures)
    c.left-left.ensures (c.kid-a_left.ensures c.args.a p c.lowest-here.ensures) (c.kid-b_left.ensures c.args.b p c.lowest-there.ensures)
    (subst (JoinSays s c.args.next c.left-left.result c.kid-a_left.result c.kid-b_left.result) c.in_ok-l.was c.join.ensures)
    (subst (JoinSays s c.args.next c.right-right.result c.kid-a_right.result c.kid-b_right.result) c.in_ok-r.was c.join-2.ensures)
    c.newer.ensures c.newer-2.ensures c.later-own.ensures c.later.ensures c.later-2.ensures
