-- `store::latest_of` meets its contract: a field of the header is what the store is read as. Assumes nothing.
use Rattle.store.proofs.latest_of.Goals as goal

pub returns : goal.returns
returns c = c.get_u32.ensures
