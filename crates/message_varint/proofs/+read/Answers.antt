-- `message_varint::read` meets its contract, by the byte there and those that follow. Assumes nothing.
use Prim.Native.Nat.{suc, ◌+◌, ◌-◌, ◌≤◌}
use native.Mathlib.Omega.{arith}
use mathlib.Core.Path.{◌≡◌, sym, subst}
use Rattle.std.specs.Prelude.{None}
use Rattle.message_varint.specs.Numbers.{Reads}
use Rattle.message_varint.proofs.Numbers.{few, reads_as, reads_end, reads_one, reads_no_more, reads_nothing, reads_zero, reads_more}
use Rattle.message_varint.proofs.+read.Goals as goal

pub returns-then-m-at : goal.returns-then-m-at
returns-then-m-at t c = reads_end c.args.m.now c.args.at c.args.more (omega arith)

pub returns-then-b-lt128 : goal.returns-then-b-lt128
returns-then-b-lt128 t c = let w = c.from-b in reads_one c.args.m.now c.args.at c.args.more w.result (omega arith) w.ensures (omega arith)

pub returns-then-more-eq0 : goal.returns-then-more-eq0
returns-then-more-eq0 t c =
    let w = c.from-b in
    reads_as (sym c.if-more-eq0.true) (reads_no_more c.args.m.now c.args.at w.result (omega arith) w.ensures (omega arith))

pub returns-in_err-rest : goal.returns-in_err-rest
returns-in_err-rest t c =
    let w = c.from-b in
    let n : suc (c.args.more - 1) ≡ c.args.more = omega (arith, c.if-more-eq0.false) in
    let gone : c.from_residual.result ≡ None = grind arith in
    let read = subst (Reads (c.args.more - 1) c.args.m.now (c.args.at + 1)) c.in_err-rest.was c.read.ensures in
    rw gone
    (reads_as n
    (reads_nothing c.args.m.now c.args.at (c.args.more - 1) w.result (omega arith) w.ensures (omega arith) read))

pub returns-then-rest-eq0 : goal.returns-then-rest-eq0
returns-then-rest-eq0 t c =
    let w = c.from-b in
    let n : suc (c.args.more - 1) ≡ c.args.more = omega (arith, c.if-more-eq0.false) in
    let read = subst (Reads (c.args.more - 1) c.args.m.now (c.args.at + 1)) c.in_ok-rest.was c.read.ensures in
    reads_as n
    (reads_zero c.args.m.now c.args.at (c.args.more - 1) w.result (omega arith) w.ensures (omega arith) c.in_ok-rest.rest read c.if-rest-eq0.true)

pub overflow_mul-result : goal.overflow_mul-result
overflow_mul-result t c =
    let less : c.args.more - 1 ≤ 1 = omega (arith, c.requires.1) in
    record { fits = omega (arith, few (c.args.more - 1) c.in_ok-rest.rest.value less (c.read.ensures.small c.in_ok-rest.rest c.in_ok-rest.was)) }

pub overflow_add-result-2 : goal.overflow_add-result-2
overflow_add-result-2 t c =
    let less : c.args.more - 1 ≤ 1 = omega (arith, c.requires.1) in
    record {
      fits = omega (arith, c.from-b.ensures, c.shared_slice_known-1.given c.args.at, few (c.args.more - 1) c.in_ok-rest.rest.value less (c.read.ensures.small c.in_ok-rest.rest c.in_ok-rest.was));
    }

pub returns : goal.returns
returns t c =
    let w = c.from-b in
    let n : suc (c.args.more - 1) ≡ c.args.more = omega (arith, c.if-more-eq0.false) in
    let read = subst (Reads (c.args.more - 1) c.args.m.now (c.args.at + 1)) c.in_ok-rest.was c.read.ensures in
    reads_as n
    (reads_more c.args.m.now c.args.at (c.args.more - 1) w.result (omega arith) w.ensures (omega arith) c.in_ok-rest.rest (omega (arith, w.ensures, c.shared_slice_known-1.given c.args.at)) read (omega (arith, c.if-rest-eq0.false)))
