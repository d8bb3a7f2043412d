-- `message_lent::step_size` meets its contract, by its side. Assumes nothing.
use mathlib.Core.Path.{sym, ap}
use mathlib.Core.Bool.{cond}
use borrow.Author.Tests.{eq-eqb, ne_eqb}
use native.Mathlib.Omega.{arith}
use Rattle.message_lent.proofs.step_size.Goals as goal

pub returns-then-side-eq1 : goal.returns-then-side-eq1
returns-then-side-eq1 c = (sym (ap (λ b. cond b 39 41) (eq-eqb c.args.side 1 c.if-side-eq1.true)), omega arith)

pub returns : goal.returns
returns c = (sym (ap (λ b. cond b 39 41) (ne_eqb c.args.side 1 c.if-side-eq1.false)), omega arith)
