-- `check_kin::ends_before` meets its contract, by the test of retired-since. Assumes nothing.
use native.Mathlib.Omega.{arith}
use borrow.Author.Tests.{eq-eqb, ne_eqb}
use Rattle.check_kin.proofs.ends_before.Goals as goal

pub returns-then-retired-eq0 : goal.returns-then-retired-eq0
returns-then-retired-eq0 c = (rw (eq-eqb c.args.retired 0 c.if-retired-eq0.true) (omega arith), omega arith)

pub returns : goal.returns
returns c = (rw (ne_eqb c.args.retired 0 c.if-retired-eq0.false), omega arith)
