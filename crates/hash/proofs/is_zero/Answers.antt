-- The comparison's contract, with the 32 zero bytes in place of the second hash's.
-- Assumes nothing.
use Rattle.hash.proofs.is_zero.Goals as goal

pub returns : goal.returns
returns c = rw (← c.no_hash.ensures) c.same_hash.ensures
