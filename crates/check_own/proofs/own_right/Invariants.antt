-- `check_own::own_right` meets its contract: the own fields of the slots before i are right. Assumes nothing.
use Rattle.layout.specs.Stores.{store_in}
use Rattle.check_seen.specs.Seen.{OwnAt}
use Rattle.check_pass.proofs.Walks.{Walk}
use Rattle.check_own.proofs.own_right.Given as goal

abbrev pub invariant-loop-i : goal.invariant-loop-i
invariant-loop-i l = Walk l.form l.store (OwnAt (store_in l.form l.store)) l.n l.i
