-- `message_fields::field` meets its contract: the tag, then the length, then as many bytes. Assumes nothing.
use Prim.Native.Nat.{◌+◌}
use native.Mathlib.Omega.{arith}
use mathlib.Core.Path.{◌≡◌, subst}
use Rattle.std.specs.Prelude.{None}
use Rattle.message_varint.specs.Numbers.{Reads}
use Rattle.message_fields.proofs.Fields.{stands_end, stands_other, stands_no_size, stands_short, stands_there}
use Rattle.message_fields.proofs.field.Goals as goal

pub returns-then-m-at : goal.returns-then-m-at
returns-then-m-at c = let a = c.args in stands_end a.n a.m.now a.at (omega arith)

pub returns-then-m-at-2 : goal.returns-then-m-at-2
returns-then-m-at-2 c = let a = c.args in stands_other a.n a.m.now a.at (omega arith) c.if-m-at-2.true

pub returns-in_err-size : goal.returns-in_err-size
returns-in_err-size c =
    let a = c.args in
    let gone : c.from_residual.result ≡ None = grind arith in
    rw gone (stands_no_size a.n a.m.now a.at (omega arith) c.if-m-at-2.false (subst (Reads 2 a.m.now (a.at + 1)) c.in_err-size.was c.varint.ensures))

pub returns-then-m-size : goal.returns-then-m-size
returns-then-m-size c =
    let a = c.args in
    stands_short a.n a.m.now a.at c.in_ok-size.size (omega arith) c.if-m-at-2.false
    (subst (Reads 2 a.m.now (a.at + 1)) c.in_ok-size.was c.varint.ensures) c.if-m-size.true

pub returns : goal.returns
returns c =
    let a = c.args in
    stands_there a.n a.m.now a.at c.in_ok-size.size (omega arith) c.if-m-at-2.false
    (subst (Reads 2 a.m.now (a.at + 1)) c.in_ok-size.was c.varint.ensures) c.if-m-size.false
