-- `palette_near::follow_all` meets its contract: each guess that is kept leads. Assumes nothing.
use mathlib.Core.Path.{◌∙◌}
use Rattle.palette_near.proofs.follow_all.Goals as goal

pub loop-key-init : goal.loop-key-init
loop-key-init c = (c.requires.2, rw c.into_iter-key-iterator.ensures.into_iter_gives c.chunks_exact-key-items.ensures.size)

pub follow-requires : goal.follow-requires
follow-requires c =
    (c.requires.0, c.slot_count-n.ensures, c.in-Some.ensures.steps.1.1 ∙ c.loop-key.invariant.1, c.loop-key.invariant.0)

pub loop-key-preserved : goal.loop-key-preserved
loop-key-preserved c = (c.follow.ensures, c.next.ensures.steps.0 ∙ c.loop-key.invariant.1)

pub returns : goal.returns
returns c = c.loop-key.invariant.0
