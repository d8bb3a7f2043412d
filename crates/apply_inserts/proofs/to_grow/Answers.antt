-- `apply_inserts::to_grow` meets its contract, by the leaf that stays and the first two inserts. Assumes nothing.
use Prim.Native.Nat.{◌<◌}
use native.Mathlib.Omega.{arith}
use Rattle.batch.specs.Batch.{count}
use Rattle.apply_inserts.proofs.Inserts.{no_grants, two_inserts, one_insert_only, leaf_and_insert, leaf_only}
use Rattle.apply_inserts.proofs.to_grow.Goals as goal

pub returns-then-n-i : goal.returns-then-n-i
returns-then-n-i c = let a = c.args in no_grants a.stays a.run.now c.next_insert-i.ensures c.in-None.is (omega (arith, c.if-n-i.true, c.record_count-n.ensures))

pub next_insert-requires : goal.next_insert-requires
next_insert-requires c = omega (arith, c.if-n-i, c.record_count-n.ensures)

pub returns-then-next_insert-n : goal.returns-then-next_insert-n
returns-then-next_insert-n c = let a = c.args in two_inserts a.stays a.run.now c.next_insert-i.ensures c.in-None.is (omega (arith, c.if-n-i, c.record_count-n.ensures)) c.next_insert.ensures (omega (arith, c.if-next_insert-n, c.record_count-n.ensures))

pub one_insert-requires : goal.one_insert-requires
one_insert-requires c = let l : c.next_insert-i.result < count c.args.run.now = omega (arith, c.if-n-i, c.record_count-n.ensures) in (l, c.next_insert-i.ensures.here l)

pub returns-then-i-n : goal.returns-then-i-n
returns-then-i-n c = let a = c.args in leaf_and_insert a.stays a.run.now c.next_insert-i.ensures c.in-Some.is (omega (arith, c.if-i-n, c.record_count-n.ensures))

pub returns-else-next_insert-n : goal.returns-else-next_insert-n
returns-else-next_insert-n c = let a = c.args in one_insert_only a.stays a.run.now c.next_insert-i.ensures c.one_insert.result c.in-None.is (omega (arith, c.if-n-i, c.record_count-n.ensures)) c.next_insert.ensures (omega (arith, c.if-next_insert-n, c.record_count-n.ensures)) c.one_insert.ensures

pub returns-else-i-n : goal.returns-else-i-n
returns-else-i-n c = let a = c.args in leaf_only a.stays a.run.now c.next_insert-i.ensures c.in-Some.is (omega (arith, c.if-i-n, c.record_count-n.ensures))
