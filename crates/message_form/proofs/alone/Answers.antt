-- `message_form::alone` meets its contract: the field, and no byte after it. Assumes nothing.
use mathlib.Core.Path.{◌≡◌}
use Rattle.std.specs.Prelude.{None}
use Rattle.message_fields.proofs.Fields.{stands_as}
use Rattle.message_form.proofs.Sayings.{alone_none, alone_over, alone_there}
use native.Mathlib.Omega.{arith}
use Rattle.message_form.proofs.alone.Goals as goal

pub returns-in_err-part : goal.returns-in_err-part
returns-in_err-part c =
    let gone : c.from_residual.result ≡ None = grind arith in
    rw gone (alone_none (stands_as c.in_err-part.was c.field.ensures))

pub returns-then-part-m : goal.returns-then-part-m
returns-then-part-m c = alone_over (stands_as c.in_ok-part.was c.field.ensures) c.if-part-m.true

pub returns : goal.returns
returns c = alone_there (stands_as c.in_ok-part.was c.field.ensures) c.if-part-m.false
