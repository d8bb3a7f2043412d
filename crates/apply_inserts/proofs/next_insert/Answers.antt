-- `apply_inserts::next_insert` meets its contract: each record passed is a delete. Assumes nothing.
use mathlib.Core.Path.{refl, sym, ◌∙◌}
use native.Mathlib.Omega.{arith}
use Rattle.apply_inserts.proofs.Inserts.{pass_one, stop_here, stop_at_end}
use Rattle.apply_inserts.proofs.next_insert.Goals as goal

pub loop-i-init : goal.loop-i-init
loop-i-init c = record { many = c.record_count-n.ensures; after = omega arith; within = omega (arith, c.record_count-n.ensures); passed = refl }

pub is_insert-requires : goal.is_insert-requires
is_insert-requires c = omega (arith, c.loop-i.invariant)

pub returns-then-is_insert : goal.returns-then-is_insert
returns-then-is_insert c = stop_here c.loop-i.invariant c.loop-i-test.true (sym c.is_insert.ensures ∙ c.if-is_insert.true)

pub loop-i-preserved : goal.loop-i-preserved
loop-i-preserved c = pass_one c.loop-i.invariant c.loop-i-test.true (sym c.is_insert.ensures ∙ c.if-is_insert.false)

pub returns : goal.returns
returns c = stop_at_end c.loop-i.invariant c.loop-i-test.false
