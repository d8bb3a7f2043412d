-- `sights::sighted` meets its contract: the slot that was found, else the first one that the test answers for. Assumes nothing.
use native.Mathlib.Omega.{arith}
use Rattle.store.proofs.Scans.{scan_slot}
use Rattle.sights.proofs.Spoilt.{matched, spoilt_start, spoilt_next, spoilt_sighted, nothing_sighted}
use Rattle.sights.proofs.sighted.Goals as goal

pub returns-in-Some : goal.returns-in-Some
returns-in-Some g c = rw c.in-Some.is (matched c.args.store.now (goal.F-post g c.args.test) _)

pub slot_count-n-requires : goal.slot_count-n-requires
slot_count-n-requires g c = c.requires.size

pub loop-i-init : goal.loop-i-init
loop-i-init g c = spoilt_start c.args.store.now _ c.requires.size c.slot_count-n.ensures

pub test-requires : goal.test-requires
test-requires g c = c.requires.each _ (scan_slot c.loop-i.invariant (omega arith))

pub returns-then-test : goal.returns-then-test
returns-then-test g c =
    rw c.in_default.is (spoilt_sighted c.args.store.now _ c.loop-i.invariant (omega arith) c.test.ensures c.if-test.true)

pub loop-i-preserved : goal.loop-i-preserved
loop-i-preserved g c = spoilt_next c.args.store.now _ c.loop-i.invariant (omega arith) c.test.ensures c.if-test.false

pub returns : goal.returns
returns g c = rw c.in_default.is (nothing_sighted c.args.store.now _ c.loop-i.invariant (omega arith))
