-- `shelf_verify::first_end` meets its contract: by the first record's own length. Assumes nothing.
use native.Mathlib.Omega.{arith}
use mathlib.Core.Path.{◌∙◌}
use Rattle.shelf_verify.proofs.Laws.{first_short, first_past, first_own}
use Rattle.shelf_verify.proofs.first_end.Goals as goal

pub returns-then-n-lt4 : goal.returns-then-n-lt4
returns-then-n-lt4 c = first_short c.args.proof.now c.if-n-lt4.true

pub returns-then-n-e : goal.returns-then-n-e
returns-then-n-e c = first_past c.args.proof.now c.if-n-lt4.false (omega (arith, c.get_u32-e.ensures, c.if-n-e.true))

pub returns : goal.returns
returns c =
    let e = c.get_u32-e.ensures in
    e ∙ first_own c.args.proof.now c.if-n-lt4.false (omega (arith, e, c.if-n-e.false))
