-- `rescue_join::of_next` meets its contract. Assumes nothing.
use borrow.Author.Tests.{eq-eqb, ne_eqb}
use Rattle.rescue_join.proofs.of_next.Goals as goal

pub returns-then-b-eq0 : goal.returns-then-b-eq0
returns-then-b-eq0 c = rw (eq-eqb c.args.b 0 c.if-b-eq0.true)

pub returns : goal.returns
returns c = rw (ne_eqb c.args.b 0 c.if-b-eq0.false)
