-- `nodehash_eight::starts` meets its contract. Lane by lane. Assumes nothing.
use Prim.Native.Nat.{◌-◌}
use native.Mathlib.Omega.{arith}
use mathlib.Core.Path.{◌≡◌}
use borrow.Author.Rules.{rules}
use Rattle.sha256.specs.Sha256.{H0}
use Rattle.sha256_eight.specs.Lanes.{value_list}
use Rattle.sha256_eight.proofs.Spread.{spread_long, value_more}
use Rattle.nodehash_eight.proofs.starts.Goals as goal

pub loop-l-init : goal.loop-l-init
loop-l-init c = (omega arith, search rules, λ i h. absurd (omega arith))

pub loop-l-preserved : goal.loop-l-preserved
loop-l-preserved c =
    let w = c.start in
    let e = c.put_value.ensures in (
      omega arith,
      rw (e, spread_long c.loop-l.r c.loop-l.l 0 (value_list w.result)) c.loop-l.invariant.1,
      rw e (value_more (λ i v. v ≡ H0) c.loop-l.r c.loop-l.l w.result (omega arith) c.loop-l.invariant.1 c.loop-l.invariant.2 w.ensures),
    )

pub returns : goal.returns
returns c =
    let e : c.loop-l.l ≡ 8 = omega arith in
    λ i h. c.loop-l.invariant.2 i (omega arith)
