-- `verify_path::paths_part` meets its contract: the paths part exactly if what is left of both below the k topmost steps does. Assumes nothing.
use Prim.Native.Nat.{◌+◌, ◌-◌}
use native.Mathlib.Omega.{arith}
use native.Mathlib.Nat.{sub-zero}
use mathlib.Core.Path.{◌≡◌, ap₂, sym, ◌∙◌}
use Rattle.meaning.specs.Checking.{paths_part}
use Rattle.proofrecords.specs.Steps.{first_steps}
use Rattle.verify_path.proofs.Steps.{no_tops, equal_tops, other_tops}
use Rattle.verify_path.proofs.paths_part.Goals as goal

pub loop-k-init : goal.loop-k-init
loop-k-init c = rw (sub-zero, sub-zero)

pub returns-then-not-same_step : goal.returns-then-not-same_step
returns-then-not-same_step c =
    let a = c.args in
    let k = c.loop-k.k in
    let e = sym c.same_step.ensures ∙ c.if-not-same_step.true in
    c.apart.ensures ∙ sym (c.loop-k.invariant ∙ other_tops (a.m - k) (a.n - k) a.l.now a.r.now (omega arith) (omega arith) e)

pub loop-k-preserved : goal.loop-k-preserved
loop-k-preserved c =
    let a = c.args in
    let k = c.loop-k.k in
    let e = sym c.same_step.ensures ∙ c.if-not-same_step.false in
    let m : a.m - k - 1 ≡ a.m - (k + 1) = omega arith in
    let n : a.n - k - 1 ≡ a.n - (k + 1) = omega arith in
    c.loop-k.invariant
    ∙ equal_tops (a.m - k) (a.n - k) a.l.now a.r.now (omega arith) (omega arith) e
    ∙ ap₂ (λ i j. paths_part (first_steps i a.l.now) (first_steps j a.r.now)) m n

pub returns : goal.returns
returns c =
    let a = c.args in
    let k = c.loop-k.k in
    sym (c.loop-k.invariant ∙ no_tops (a.m - k) (a.n - k) a.l.now a.r.now (omega arith))
