-- `check_trial::hashed` is safe and ends. Assumes nothing.
use Rattle.terms.specs.declared.Form.TheVariants.{Counted as counted}
use Rattle.check_pass.proofs.Walks.{Walk}
use Rattle.check_trial.proofs.hashed.Given as goal

abbrev pub invariant-loop-i : goal.invariant-loop-i
invariant-loop-i l = Walk counted l.store (λ k. Unit {0}) l.n l.i
