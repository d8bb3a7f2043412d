-- The message's own byte, or 128 at its end, or past it.
-- Assumes nothing.
use mathlib.Core.Path.{sym}
use mathlib.Core.List.{[]}
use native.Mathlib.Omega.{arith}
use lib.Seq.{get_or_at}
use Rattle.digest.proofs.Padding.{tail_inside, tail_past}
use borrow.Author.Rules.{rules}
use Rattle.digest.proofs.tail_byte.Goals as goal

pub returns-then-at-b : goal.returns-then-at-b
returns-then-at-b c =
    let a = c.args in
    (sym (tail_inside a.b.now a.at (omega arith)), omega (arith, c.type_inv.b a.at))

pub returns-then-at-b-2 : goal.returns-then-at-b-2
returns-then-at-b-2 c =
    let a = c.args in
    (sym (get_or_at a.b.now 128 [] 0 a.at (sym c.if-at-b-2.true)), search rules)

pub returns : goal.returns
returns c =
    let a = c.args in
    (sym (tail_past a.b.now a.at (omega arith)), search rules)
