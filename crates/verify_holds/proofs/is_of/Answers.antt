-- `verify_holds::is_of` meets its contract: the 32 bytes from the eighth on. Assumes nothing.
use Rattle.terms.specs.Fields.{slice}
use Rattle.verify_holds.proofs.is_of.Goals as goal

pub returns : goal.returns
unfolding slice
returns c = c.same.ensures
