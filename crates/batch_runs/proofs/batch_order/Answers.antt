-- `batch_runs::batch_order` meets its contract: the keys before record i are in order, so the keys from the one before it on decide.
-- Assumes nothing.
use Prim.Native.Nat.{◌+◌, ◌-◌}
use native.Mathlib.Omega.{arith}
use mathlib.Core.Path.{◌≡◌, refl, sym, ap, ap₂, ◌∙◌}
use lib.ListN.{drop}
use Rattle.terms.specs.Bits.{before}
use Rattle.terms.specs.Records.{ask_key}
use Rattle.meaning.specs.Calls.{ascending}
use Rattle.batch.specs.Batch.{asks}
use Rattle.batch.specs.Records.{ask_at}
use Rattle.batch.proofs.Batches.{order_next, order_off, order_end}
use Rattle.batch_runs.proofs.batch_order.Goals as goal

pub loop-i-init : goal.loop-i-init
loop-i-init c = refl

pub returns-then-not-before : goal.returns-then-not-before
returns-then-not-before c =
    let b = c.args.b.now in
    let j = c.loop-i.i - 1 in
    let e : j + 1 ≡ c.loop-i.i = omega arith in
    sym (c.loop-i.invariant ∙ order_off b j (omega arith) (ap (λ k. before (ask_key (ask_at j b)) (ask_key (ask_at k b))) e ∙ sym (ap₂ before c.key-x.ensures.0 c.key-y.ensures.0) ∙ sym c.before-in-loop-i.ensures ∙ c.if-not-before.true))

pub loop-i-preserved : goal.loop-i-preserved
loop-i-preserved c =
    let b = c.args.b.now in
    let j = c.loop-i.i - 1 in
    let e : j + 1 ≡ c.loop-i.i = omega arith in
    let f : j + 1 ≡ c.loop-i.i + 1 - 1 = omega arith in
    c.loop-i.invariant
    ∙ order_next b j (omega arith) (ap (λ k. before (ask_key (ask_at j b)) (ask_key (ask_at k b))) e ∙ sym (ap₂ before c.key-x.ensures.0 c.key-y.ensures.0) ∙ sym c.before-in-loop-i.ensures ∙ c.if-not-before.false)
    ∙ ap (λ k. ascending (drop k (asks b))) f

pub returns : goal.returns
returns c = sym (c.loop-i.invariant ∙ order_end c.args.b.now (c.loop-i.i - 1) (omega arith))
