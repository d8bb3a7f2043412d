-- `apply_leaf::own_ask` meets its contract: no record passed asks for the key. Assumes nothing.
use Prim.Native.Nat.{◌+◌}
use mathlib.Core.Path.{refl, sym, ◌∙◌}
use native.Mathlib.Omega.{arith}
use lib.ListN.{drop}
use Rattle.hash.specs.Hash.{hash_bytes}
use Rattle.batch.specs.Batch.{asks}
use Rattle.batch.specs.Records.{ask_at}
use Rattle.steps.specs.Step as step
use Rattle.apply_leaf.proofs.Asked.{look_on, look_end, own_else, own_insert, own_delete}
use Rattle.apply_leaf.proofs.own_ask.Goals as goal

pub loop-i-init : goal.loop-i-init
loop-i-init c = record { many = c.record_count-n.ensures; within = omega arith; rest = refl }

pub asks_for-requires : goal.asks_for-requires
asks_for-requires c = omega (arith, c.loop-i.invariant)

pub is_insert-requires : goal.is_insert-requires
is_insert-requires c = omega (arith, c.loop-i.invariant, c.loop-i-test)

pub grant-g-requires : goal.grant-g-requires
grant-g-requires c = (omega (arith, c.loop-i.invariant, c.loop-i-test), sym c.is_insert.ensures ∙ c.if-is_insert.true)

pub returns-then-is_insert : goal.returns-then-is_insert
returns-then-is_insert c =
    let a = c.args in
    let g = c.grant-g.ensures in
    own_insert (hash_bytes a.key) a.run.now c.loop-i.invariant c.loop-i-test.true (sym c.asks_for.ensures ∙ c.if-asks_for.true) (sym c.is_insert.ensures ∙ c.if-is_insert.true) _ _ g.0 g.1 c.hash_at.ensures.result_value

pub returns-then-asks_for : goal.returns-then-asks_for
returns-then-asks_for c =
    let a = c.args in
    own_delete (hash_bytes a.key) a.run.now c.loop-i.invariant c.loop-i-test.true (sym c.asks_for.ensures ∙ c.if-asks_for.true) (sym c.is_insert.ensures ∙ c.if-is_insert.false)

pub loop-i-preserved : goal.loop-i-preserved
loop-i-preserved c =
    let a = c.args in
    let k = hash_bytes a.key in
    look_on (step.own_ask k) a.run.now c.loop-i.invariant c.loop-i-test.true (own_else k (ask_at c.loop-i.i a.run.now) (drop (c.loop-i.i + 1) (asks a.run.now)) (sym c.asks_for.ensures ∙ c.if-asks_for.false))

pub returns : goal.returns
returns c = let a = c.args in look_end (step.own_ask (hash_bytes a.key)) a.run.now c.loop-i.invariant c.loop-i-test.false
