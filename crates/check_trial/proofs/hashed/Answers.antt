-- `check_trial::hashed` is safe and ends. Assumes nothing.
use Rattle.std.proofs.Common.{arith}
use Rattle.store.proofs.Slots.{slot_within}
use Rattle.check_pass.proofs.Walks.{walk_start, walk_slot, walk_next}
use Rattle.check_trial.proofs.hashed.Goals as goal

pub slot_count-n-requires : goal.slot_count-n-requires
slot_count-n-requires c = c.requires

pub loop-i-init : goal.loop-i-init
loop-i-init c = walk_start c.args.store.now (λ k. Unit {0}) c.requires c.slot_count-n.ensures

pub kind_at-requires : goal.kind_at-requires
kind_at-requires c = slot_within (walk_slot c.loop-i.invariant c.loop-i-test.true)

pub slot_of-requires : goal.slot_of-requires
slot_of-requires c = slot_within (walk_slot c.loop-i.invariant c.loop-i-test.true)

pub loop-i-preserved : goal.loop-i-preserved
loop-i-preserved c = walk_next c.loop-i.invariant c.loop-i-test.true tt
