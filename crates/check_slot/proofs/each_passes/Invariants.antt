-- `check_slot::each_passes` meets its contract: the slots before i pass. Assumes nothing.
use Rattle.local.specs.Test.{slot_test}
use Rattle.nodehash.specs.Node.{leaf_hash, inner_hash}
use Rattle.layout.specs.Stores.{store_in}
use Rattle.check_roots.proofs.Scanning.{Passed}
use Rattle.check_slot.proofs.each_passes.Given as goal

abbrev pub invariant-loop-i : goal.invariant-loop-i
invariant-loop-i l = Passed l.form l.store (slot_test leaf_hash inner_hash (store_in l.form l.store)) l.n l.i
