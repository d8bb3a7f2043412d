-- `message_lent::neighbour_fits` meets its contract: nobody, or a leaf that fits. Assumes nothing.
use mathlib.Core.Path.{ap, sym, ◌∙◌}
use Rattle.message_lent.specs.Lent.{leaf, neighbour_fits}
use Rattle.message_lent.proofs.Lengths.{nobody_fits, somebody_is}
use Rattle.message_lent.proofs.neighbour_fits.Goals as goal

pub returns-then-p-eq0 : goal.returns-then-p-eq0
returns-then-p-eq0 c = let a = c.args in nobody_fits (leaf a.key.now a.value.now) a.p.now c.if-p-eq0.true

pub leaf_fits-requires : goal.leaf_fits-requires
leaf_fits-requires c = c.requires c.if-p-eq0.false

pub returns : goal.returns
returns c = let a = c.args in c.leaf_fits.ensures ∙ sym (ap (neighbour_fits (leaf a.key.now a.value.now)) (somebody_is a.p.now c.if-p-eq0.false))
