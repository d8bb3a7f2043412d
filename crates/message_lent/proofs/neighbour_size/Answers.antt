-- `message_lent::neighbour_size` meets its contract: nobody, or the field of an existence proof. Assumes nothing.
use mathlib.Core.Path.{ap, sym, ◌∙◌}
use Rattle.message_lent.specs.Lent.{field_length, neighbour_length}
use Rattle.message_lent.proofs.Lengths.{nobody_is, somebody_is}
use native.Mathlib.Omega.{arith}
use Rattle.message_lent.proofs.neighbour_size.Goals as goal

pub returns-then-p-eq0 : goal.returns-then-p-eq0
returns-then-p-eq0 c = let a = c.args in (sym (ap (neighbour_length a.key a.value) (nobody_is a.p.now c.if-p-eq0.true)), omega arith)

pub existence_size-requires : goal.existence_size-requires
existence_size-requires c = (c.requires.0 c.if-p-eq0.false, (c.requires.1 c.if-p-eq0.false).0, (c.requires.1 c.if-p-eq0.false).1)

pub returns : goal.returns
returns c =
    let a = c.args in
    (c.field_size.ensures.0 ∙ ap field_length c.existence_size.ensures.0 ∙ sym (ap (neighbour_length a.key a.value) (somebody_is a.p.now c.if-p-eq0.false)), omega (arith, c.field_size.ensures.1, c.existence_size.ensures.1))
