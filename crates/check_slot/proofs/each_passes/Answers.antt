-- `check_slot::each_passes` meets its contract: the slots before i pass. Assumes nothing.
use Rattle.local.specs.Test.{slot_test, slots_test}
use Rattle.nodehash.specs.Node.{leaf_hash, inner_hash}
use Rattle.layout.specs.Stores.{store_in}
use Rattle.check_roots.proofs.Scanning.{pass_start, pass_off, pass_end}
use Rattle.check_slot.proofs.each_passes.Goals as goal

pub loop-i-init : goal.loop-i-init
loop-i-init c = pass_start c.args.store.now (slot_test leaf_hash inner_hash (store_in c.args.form c.args.store.now)) c.requires.size c.slot_count-n.ensures

pub returns-then-not-slot_passes : goal.returns-then-not-slot_passes
unfolding slots_test
returns-then-not-slot_passes c = pass_off _ c.loop-i.invariant c.loop-i-test.true c.slot_passes.ensures c.if-not-slot_passes.true

pub returns : goal.returns
unfolding slots_test
returns c = pass_end _ c.loop-i.invariant c.loop-i-test.false
