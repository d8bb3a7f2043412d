-- `order_guess::guide_with` meets its contract. Assumes nothing.
use mathlib.Core.Bool.{not}
use mathlib.Core.Path.{ap}
use native.Mathlib.Omega.{arith}
use Rattle.std.proofs.lemmas.List.{length-take-le}
use Rattle.check_pass.proofs.Passes.{passed_so}
use Rattle.order_guess.proofs.guide_with.Goals as goal

pub returns-then-not-ordered : goal.returns-then-not-ordered
returns-then-not-ordered c = record { short = omega arith; sure = λ h. absurd (omega arith) }

pub returns : goal.returns
returns c =
    let made = c.guess_order-many in record {
      short = omega (arith, made.ensures, made.array_long, made.array_long2, length-take-le made.result made.new.table);
      sure = λ _. passed_so c.ordered.result (ap not c.if-not-ordered.false) c.ordered.ensures;
    }
