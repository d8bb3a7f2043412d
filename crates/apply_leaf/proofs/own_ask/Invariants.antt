-- `apply_leaf::own_ask` meets its contract: no record passed asks for the key. Assumes nothing.
use Rattle.hash.specs.Hash.{hash_bytes}
use Rattle.steps.specs.Step as step
use Rattle.apply_leaf.proofs.Asked.{Looking}
use Rattle.apply_leaf.proofs.own_ask.Given as goal

abbrev pub invariant-loop-i : goal.invariant-loop-i
invariant-loop-i l = Looking (step.own_ask (hash_bytes l.key)) l.run l.n l.i
