-- `check_cover::covered` meets its contract slot by slot. Assumes nothing.
use Rattle.check_pass.proofs.Walks.{Walk}
use Rattle.check_cover.specs.Cover.{CoveredAt}
use Rattle.check_cover.proofs.covered.Given as goal

abbrev pub invariant-loop-i : goal.invariant-loop-i
invariant-loop-i l = Walk l.form l.store (CoveredAt l.form l.store l.sums) l.n l.i
