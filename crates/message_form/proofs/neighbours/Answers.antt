-- `message_form::neighbours` meets its contract: left, then right, to the end. Assumes nothing.
use mathlib.Core.Path.{◌≡◌}
use Rattle.std.specs.Prelude.{None}
use Rattle.message_form.proofs.Besides.{neighbours_as}
use Rattle.message_form.proofs.Sayings.{follows_none, no_left, no_right, bytes_over, neither_there, nobody_there, follows_there}
use native.Mathlib.Omega.{arith}
use Rattle.message_form.proofs.neighbours.Goals as goal

pub returns-in_err-left : goal.returns-in_err-left
returns-in_err-left c =
    let gone : c.from_residual.result ≡ None = grind arith in
    rw gone (follows_none (no_left c.args.key (neighbours_as c.in_err-left.was c.beside.ensures)))

pub beside-requires-2 : goal.beside-requires-2
beside-requires-2 c = ((c.beside.ensures.so c.in_ok-left.left c.in_ok-left.was).inside.1, omega arith)

pub returns-in_err-right : goal.returns-in_err-right
returns-in_err-right c =
    let gone : c.from_residual-in_err-right.result ≡ None = grind arith in
    rw gone (follows_none (no_right c.args.key (neighbours_as c.in_ok-left.was c.beside.ensures) (neighbours_as c.in_err-right.was c.beside-2.ensures)))

pub returns-then-right-x : goal.returns-then-right-x
returns-then-right-x c = follows_none (bytes_over c.args.key (neighbours_as c.in_ok-left.was c.beside.ensures) (neighbours_as c.in_ok-right.was c.beside-2.ensures) c.if-right-x.true)

pub returns-then-is_none-2 : goal.returns-then-is_none-2
returns-then-is_none-2 c =
    follows_none
    (nobody_there c.args.key (neighbours_as c.in_ok-left.was c.beside.ensures) (neighbours_as c.in_ok-right.was c.beside-2.ensures)
    (neither_there c.is_none.ensures c.if-is_none.true c.is_none-then-is_none.ensures c.if-is_none-2.true))

pub returns : goal.returns
returns c = follows_there c.args.key (neighbours_as c.in_ok-left.was c.beside.ensures) (neighbours_as c.in_ok-right.was c.beside-2.ensures) c.if-right-x.false (grind arith)
