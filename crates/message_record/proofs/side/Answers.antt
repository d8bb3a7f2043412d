-- `message_record::side` meets its contract, by the length. Assumes nothing.
use mathlib.Core.Path.{sym, ap}
use mathlib.Core.Bool.{cond}
use borrow.Author.Tests.{eq-eqb, ne_eqb}
use Rattle.message_record.proofs.side.Goals as goal

pub returns-then-n-eq39 : goal.returns-then-n-eq39
returns-then-n-eq39 c = sym (ap (λ b. cond b 0 1) (eq-eqb c.args.n 39 c.if-n-eq39.true))

pub returns : goal.returns
returns c = sym (ap (λ b. cond b 0 1) (ne_eqb c.args.n 39 c.if-n-eq39.false))
