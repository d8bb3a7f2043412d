-- `rescue_fill::fill` meets its contract: the target holds the run found up to now, and where versions join no more, it is the longest. Assumes
-- nothing.
use Rattle.rescue_fill.proofs.Filling.{State}
use Rattle.rescue_fill.proofs.fill.Given as goal

abbrev pub invariant-loop-top : goal.invariant-loop-top
invariant-loop-top l = State l.source l.oldest l.latest l.b l.low l.target

abbrev pub decreases-loop-top : goal.decreases-loop-top
decreases-loop-top l = l.b
