-- `apply_leaf::inserts_more` meets its contract: each record passed is a delete, or asks for the key itself. Assumes nothing.
use Rattle.hash.specs.Hash.{hash_bytes}
use Rattle.steps.specs.Step as step
use Rattle.apply_leaf.proofs.Asked.{Looking}
use Rattle.apply_leaf.proofs.inserts_more.Given as goal

abbrev pub invariant-loop-i : goal.invariant-loop-i
invariant-loop-i l = Looking (step.other_inserts (hash_bytes l.key)) l.run l.n l.i
