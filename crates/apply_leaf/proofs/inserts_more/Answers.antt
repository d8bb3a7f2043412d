-- `apply_leaf::inserts_more` meets its contract: each record passed is a delete, or asks for the key itself. Assumes nothing.
use Prim.Native.Nat.{◌+◌}
use mathlib.Core.Path.{refl, ap, sym, ◌∙◌}
use native.Mathlib.Omega.{arith}
use lib.ListN.{drop}
use Rattle.hash.specs.Hash.{hash_bytes}
use Rattle.batch.specs.Batch.{asks}
use Rattle.batch.specs.Records.{ask_at}
use Rattle.steps.specs.Step as step
use Rattle.apply_leaf.specs.Leaf.{is_more}
use Rattle.apply_leaf.proofs.Asked.{look_on, look_end, more_delete, more_own, more_here}
use Rattle.apply_leaf.proofs.inserts_more.Goals as goal
use Rattle.apply_leaf.proofs.inserts_more.Goals.{else-is_insert-via-then-is_insert+else-not-asks_for, else-is_insert-via-else-is_insert}

pub loop-i-init : goal.loop-i-init
loop-i-init c = record { many = c.record_count-n.ensures; within = omega arith; rest = refl }

pub is_insert-requires : goal.is_insert-requires
is_insert-requires c = omega (arith, c.loop-i.invariant)

pub asks_for-requires : goal.asks_for-requires
asks_for-requires c = omega (arith, c.loop-i.invariant, c.loop-i-test)

pub returns-then-not-asks_for : goal.returns-then-not-asks_for
returns-then-not-asks_for c =
    let a = c.args in
    more_here (hash_bytes a.key) a.run.now c.loop-i.invariant c.loop-i-test.true (sym c.is_insert.ensures ∙ c.if-is_insert.true) (sym c.asks_for.ensures ∙ c.if-not-asks_for.true)

pub loop-i-preserved : goal.loop-i-preserved
loop-i-preserved c =
    let a = c.args in
    let k = hash_bytes a.key in
    let d = drop (c.loop-i.i + 1) (asks a.run.now) in
    look_on (step.other_inserts k) a.run.now c.loop-i.invariant c.loop-i-test.true
    (elim c.else-is_insert.branch [
      | else-is_insert-via-then-is_insert+else-not-asks_for w ↦ more_own k (ask_at c.loop-i.i a.run.now) d (sym w.asks_for.ensures ∙ w.if-not-asks_for.false)
      | else-is_insert-via-else-is_insert w ↦ more_delete k (ask_at c.loop-i.i a.run.now) d (sym c.is_insert.ensures ∙ w.if-is_insert.false)
    ])

pub returns : goal.returns
returns c = let a = c.args in sym (ap is_more (look_end (step.other_inserts (hash_bytes a.key)) a.run.now c.loop-i.invariant c.loop-i-test.false))
