-- `sights::sighted` meets its contract: no slot passed is spoilt and agrees. Assumes nothing.
use Rattle.terms.specs.declared.Form.TheVariants.{Counted as counted}
use Rattle.store.proofs.Scans.{Scan}
use Rattle.sights.proofs.Spoilt.{Passed}
use Rattle.sights.proofs.sighted.Given as goal

abbrev pub invariant-loop-i : goal.invariant-loop-i
invariant-loop-i g l = Scan counted l.store (Passed l.store (goal.F-post g l.test)) l.n l.i
