-- `batch_runs::cut` meets its contract: the records before `low` go left and those from `high` on go right. The measure is what lies between.
-- Assumes nothing.
use Prim.Native.Nat.{◌+◌, ◌-◌, ◌/◌}
use native.Mathlib.Omega.{arith}
use mathlib.Core.Path.{sym, ap, ◌∙◌}
use Rattle.terms.specs.Bits.{bit}
use Rattle.batch.proofs.Runs.{lefts_within, cut_right, cut_left}
use Rattle.batch_runs.proofs.cut.Goals as goal

pub loop-low-init : goal.loop-low-init
loop-low-init c = (omega arith, lefts_within c.args.i c.args.run.now, omega arith)

pub key_bit-requires : goal.key_bit-requires
key_bit-requires c = let h = c.requires.short in omega (arith, c.key.ensures.1)

pub loop-low-preserved-then-key_bit : goal.loop-low-preserved-then-key_bit
loop-low-preserved-then-key_bit c =
    let a = c.args in
    let l = c.loop-low.low in
    let m = l + (c.loop-low.high - l) / 2 in
    (c.loop-low.invariant.0, cut_right a.i a.run.now c.requires m (omega arith) (sym (ap (bit a.i) c.key.ensures.0) ∙ sym c.key_bit.ensures ∙ c.if-key_bit.true), omega arith)

pub loop-low-preserved : goal.loop-low-preserved
loop-low-preserved c =
    let a = c.args in
    let l = c.loop-low.low in
    let m = l + (c.loop-low.high - l) / 2 in
    let h = cut_left a.i a.run.now c.requires m (omega arith) (sym (ap (bit a.i) c.key.ensures.0) ∙ sym c.key_bit.ensures ∙ c.if-key_bit.false) in
    (omega arith, c.loop-low.invariant.1, c.loop-low.invariant.2)

pub returns : goal.returns
returns c = (omega arith, omega arith)
